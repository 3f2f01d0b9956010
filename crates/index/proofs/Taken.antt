-- What an index taken of any counts is, test by test.
use Prim.Native.Nat.{ℕ, ◌≤◌, ◌<◌}
use mathlib.Core.Path.{◌≡◌, subst⁻¹}
use Rattle.std.proofs.Common.{◌⊎◌, inl, inr}
use mathlib.Core.Bool.{not}
use lib.Dec.{T}
use lib.Ieee.{is_nan, of_int}
use borrow.Author.Tests.{le-leb, lt-leb}
use Rattle.rules.specs.declared.Index.{Index}
use Rattle.rules.specs.Index.{float, index_of}
use Rattle.index.specs.Counts.{Counts, no_index, NoNan, IndexFrom}
use Rattle.index.proofs.Bound.{exact-counts, no_nan}

zero_number : T (not (is_nan (float 0)))
unfolding of_int is_nan
zero_number = tt

numbered : (i : Index) → i ≡ no_index → NoNan i
numbered i e = subst⁻¹ NoNan e (record { ic = zero_number; ip = zero_number; value = zero_number })

module _ (u n p l : ℕ) (i : Index) where
  -- none, where a test fails: the last, the second or the first
  pub none : ((1 ≤ n) × (u ≤ n) × (p < 1)) ⊎ (((1 ≤ n) × (n < u)) ⊎ (n < 1)) → i ≡ no_index → IndexFrom u n p l i
  none (inl (h, k, few)) e =
      record { is = rw (le-leb 1 n h, le-leb u n k, lt-leb 1 p few) e; numbers = numbered i e }
  none (inr (inl (h, few))) e = record { is = rw (le-leb 1 n h, lt-leb u n few) e; numbers = numbered i e }
  none (inr (inr few)) e = record { is = rw (lt-leb 1 n few) e; numbers = numbered i e }

  pub taken : Counts u n p l → i ≡ index_of u n p l → IndexFrom u n p l i
  taken k e =
      record {
        is = rw (le-leb 1 n k.some_pictures, le-leb u n k.of_them, le-leb 1 p k.some_packets) e;
        numbers = subst⁻¹ NoNan e (no_nan (exact-counts k));
      }

-- of counts that a sample can have it is the rule's
pub index_is : {u n p l : ℕ} {i : Index} → Counts u n p l → IndexFrom u n p l i → i ≡ index_of u n p l
index_is {u} {n} {p} {l} k h =
    rw (le-leb 1 n k.some_pictures, le-leb u n k.of_them, le-leb 1 p k.some_packets) at h.is
