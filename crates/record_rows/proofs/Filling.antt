-- How rows are laid over lent ones, one after the other, and the three answers of a call.
use Prim.Native.Nat.{ℕ, zero, suc, ◌+◌, ◌≤◌, ◌<◌}
use native.Mathlib.Omega.{arith}
use native.Mathlib.Nat.{zero-add, add-zero}
use native.Mathlib.Numerals.{add-one}
use mathlib.Core.Path.{◌≡◌, refl, ap}
use mathlib.Core.List.{List, [], ◌∷◌, ◌++◌}
use lib.ListN.{length, set, drop, length-set}
use borrow.Author.Tests.{lt-ltb, le-ltb}
use Rattle.std.specs.Prelude.{Ok, Err}
use Rattle.rules.specs.declared.refusals.Refusal.{Refusal}
use Rattle.rules.specs.Refusals.{refused, none, fault}
use Rattle.rules.specs.Bytes.{table}
use Rattle.rules.specs.Reading.{reading_fault}
use Rattle.rules.specs.Seal.{no_room}
use Rattle.record_rows.specs.Rows.{rows_over, rows_answer, RowsRead}

module _ (row : ℕ → List ℕ) where
  next : (j from : ℕ) (ys : List (List ℕ)) → j < length ys →
      set (table j from row ++ drop j ys) j (row (from + j)) ≡ table (suc j) from row ++ drop (suc j) ys
  unfolding table
  next j from [] h = absurd (omega arith)
  next zero from (y ∷ ys) h = rw (add-zero from)
  next (suc j) from (y ∷ ys) h =
      let same : from + suc j ≡ suc from + j = omega arith in
      rw same (ap (λ (l : List (List ℕ)). row from ∷ l) (next j (suc from) ys (omega arith)))

  -- of n rows the first j are laid over ys, which then are zs: a loop's invariant
  abbrev pub Laid : ℕ → List (List ℕ) → List (List ℕ) → ℕ → Type 0
  Laid n ys zs j = (j ≤ n) × (length zs ≡ length ys) × (zs ≡ rows_over j row ys)

  module _ (n : ℕ) (ys : List (List ℕ)) where
    pub none-laid : Laid n ys ys 0
    unfolding table
    none-laid = (omega arith, refl, refl)

    pub one_more : (zs : List (List ℕ)) (j : ℕ) (x : List ℕ) → Laid n ys zs j → j < n → n ≤ length ys → x ≡ row j →
        Laid n ys (set zs j x) (j + 1)
    one_more zs j x at h room e =
        let here : x ≡ row (0 + j) = rw (zero-add j) e in
        (omega arith, simp length-set (omega arith), rw (at.2, here, add-one) (next j 0 ys (omega arith)))

    pub all_laid : (zs : List (List ℕ)) (j : ℕ) → Laid n ys zs j → n ≤ j → zs ≡ rows_over n row ys
    all_laid zs j at h = let end : j ≡ n = omega arith in rw end at at.2

-- ---- the answers

module _ (r : List ℕ) (n : ℕ) (row : ℕ → List ℕ) (ys : List (List ℕ)) where
  pub not-opened : (d : Refusal) → reading_fault r ≡ fault d.number d.place → RowsRead r n row ys (Err d) ys
  unfolding rows_answer
  not-opened d e = record { answered = rw e; given = rw e }

  module _ (accepted : reading_fault r ≡ none) (m : ℕ) (said : m ≡ n) where
    pub short : length ys < m → RowsRead r n row ys (refused 15 m) ys
    unfolding rows_answer no_room
    short h =
        let less = lt-ltb (length ys) n (omega arith) in
        record { answered = rw (accepted, less, said); given = rw (accepted, less) }

    pub done : m ≤ length ys → (zs : List (List ℕ)) → zs ≡ rows_over m row ys → RowsRead r n row ys (Ok m) zs
    unfolding rows_answer no_room
    done h zs e =
        let room = le-ltb (length ys) n (omega arith) in
        record { answered = rw (accepted, room, said); given = rw (accepted, room, ← said) e }
