-- The checks of every row, row by row: as long as those of each row hold, the first that fails of all is that of the
-- rows which are left.
use Prim.Native.Nat.{ℕ, suc, ◌+◌, ◌-◌, ◌≤◌, ◌<◌}
use native.Mathlib.Omega.{arith}
use native.Mathlib.Nat.{sub-zero}
use native.Mathlib.Numerals.{add-one}
use mathlib.Core.Path.{◌≡◌, refl, ◌∙◌}
use mathlib.Core.List.{List, [], ◌++◌}
use Rattle.std.specs.Prelude.{Ok, Err, IsErrAnd}
use Rattle.rules.specs.Bytes.{table, end_to_end}
use Rattle.record_verify.specs.declared.Failing.{Failing}
use Rattle.record_verify.specs.Marks.{Check, Found, first_failing}
use Rattle.record_verify.proofs.Answers.{none-fails, these-fail, these-hold}

module _ (f : ℕ → List Check) (n : ℕ) where
  -- n rows, of which j are done
  abbrev pub Left : ℕ → Found
  Left j = first_failing (end_to_end (table (n - j) j f))

  pub none_yet : Left 0 ≡ first_failing (end_to_end (table n 0 f))
  none_yet = rw (sub-zero n)

  module _ (j : ℕ) (all x : Found) (e : Left j ≡ all) (h : j < n) (g : x ≡ first_failing (f j)) where
    rest : List Check
    rest = end_to_end (table (n - (j + 1)) (j + 1) f)

    next : first_failing (f j ++ rest) ≡ all
    unfolding table end_to_end rest
    next =
        let more : n - j ≡ suc (n - (j + 1)) = omega arith in
        rw (more, ← add-one j) at e

    pub one_more : x ≡ Ok tt → Left (j + 1) ≡ all
    unfolding rest
    one_more k = these-hold (f j) rest g k refl ∙ next

    pub one-fails : (d : Failing) → x ≡ Err d → (r : Found) → IsErrAnd r (λ (e : Failing). e ≡ d) → r ≡ all
    one-fails d k r p = these-fail (f j) rest g d k r p ∙ next

  pub all_done : (j : ℕ) (all : Found) → Left j ≡ all → n ≤ j → Ok tt ≡ all
  unfolding table end_to_end
  all_done j all e h =
      let z : n - j ≡ 0 = omega arith in
      let d : first_failing [] ≡ all = rw z at e in
      none-fails ∙ d
