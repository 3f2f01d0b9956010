-- What the C functions that read all rows of a record promise.
use Rattle.std.specs.Prelude.{ℕ, ◌≡◌, List, length}
use Rattle.rules.specs.Bytes.{word32}
use Rattle.record_rows.specs.Rows.{unit_row, scene_row, rows_over, rows_answer}
use Rattle.rules.specs.Seal.{if_done}
use Rattle.c_numbers.specs.Numbers.{number_of, value_of}

-- the record's bytes, how many rows it has, which they are, the lent rows before, the number, the count, the lent rows
-- after
pub record RowsGiven (r : List ℕ) (n : ℕ) (row : ℕ → List ℕ) (before : List (List ℕ)) (number count : ℕ)
    (after : List (List ℕ)) : Type 0 where
  pub numbered : number ≡ number_of (rows_answer r n (length before))
  pub counted : count ≡ value_of (rows_answer r n (length before))
  pub given : after ≡ if_done (rows_answer r n (length before)) (rows_over n row before) before

abbrev pub UnitsGiven : List ℕ → List (List ℕ) → ℕ → ℕ → List (List ℕ) → Type 0
UnitsGiven r = RowsGiven r (word32 r 8) (unit_row r)

abbrev pub ScenesGiven : List ℕ → List (List ℕ) → ℕ → ℕ → List (List ℕ) → Type 0
ScenesGiven r = RowsGiven r (word32 r 16) (scene_row r)
