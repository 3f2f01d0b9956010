-- A call that is done gives each row that reading row by row gives.
use Prim.Native.Nat.{ℕ, zero, suc, ◌+◌, ◌<◌}
use native.Mathlib.Omega.{arith}
use native.Mathlib.Nat.{zero-add, add-zero}
use mathlib.Core.Path.{sym, ◌≡◌, refl, ap, ◌∙◌}
use mathlib.Core.List.{List, [], ◌++◌}
use lib.ListN.{length, get_or, drop}
use borrow.Author.Tests.{lt-ltb}
use Rattle.std.specs.Prelude.{Ok}
use Rattle.rules.proofs.Laws.Answers.{given-same, ok-err}
use Rattle.rules.specs.Bytes.{word32, table}
use Rattle.rules.specs.Refusals.{Fault, none, fault, ◌or_else◌, answer}
use Rattle.rules.specs.Reading.{reading_fault, row_fault, unit_fault, scene_fault, unit_answer, scene_answer}
use Rattle.rules.specs.Seal.{no_room}
use Rattle.record_rows.specs.Rows.{unit_row, scene_row, rows_over, rows_answer, RowsRead, EachUnit, EachScene}

-- row j of rows that are laid over others
laid : (row : ℕ → List ℕ) (n from j : ℕ) (rest : List (List ℕ)) → j < n →
    get_or (table n from row ++ rest) j [] ≡ row (from + j)
unfolding table
laid row zero from j rest h = absurd (omega arith)
laid row (suc n) from zero rest h = rw (add-zero from)
laid row (suc n) from (suc j) rest h =
    let same : from + suc j ≡ suc from + j = omega arith in
    rw same (laid row n (suc from) j rest (omega arith))

-- a call that is done refused nothing, and its answer is the number of rows
done : (f : Fault) (lent n m : ℕ) → Ok m ≡ answer (f or_else no_room lent n) n → (f ≡ none) × (m ≡ n)
done none lent n m e = (refl, sym (given-same _ _ _ (sym e)))
done (fault k p) lent n m e = absurd (ok-err e)

module _ (r : List ℕ) (n : ℕ) (row : ℕ → List ℕ) (before after : List (List ℕ)) (m : ℕ)
    (given : RowsRead r n row before (Ok m) after) where
  pub read : (reading_fault r ≡ none) × (m ≡ n)
  unfolding rows_answer
  read = done (reading_fault r) (length before) n m given.answered

  pub each : (j : ℕ) → j < m → get_or after j [] ≡ row j
  each j h =
      let new : after ≡ rows_over n row before = rw (← given.answered) at given.given in
      rw new (laid row n 0 j (drop n before) (omega (arith, read.1)) ∙ ap row (zero-add j))

pub each-unit : EachUnit
unfolding unit_answer unit_fault row_fault
each-unit r before n after given j h =
    let known = read r (word32 r 8) (unit_row r) before after n given in
    (rw (known.0, lt-ltb j (word32 r 8) (omega (arith, known.1))), each r _ (unit_row r) before after n given j h)

pub each-scene : EachScene
unfolding scene_answer scene_fault row_fault
each-scene r before n after given j h =
    let known = read r (word32 r 16) (scene_row r) before after n given in
    (rw (known.0, lt-ltb j (word32 r 16) (omega (arith, known.1))), each r _ (scene_row r) before after n given j h)
