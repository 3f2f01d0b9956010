-- Reading all rows of a record at once: what is answered, and what the lent rows hold afterwards.
use Rattle.std.specs.Prelude.{ℕ, ◌<◌, ◌≡◌, List, [], ◌∷◌, ◌++◌, length, get_or, drop, Ok}
use Rattle.rules.specs.declared.UnitRow.{UnitRow}
use Rattle.rules.specs.declared.SceneRow.{SceneRow}
use Rattle.rules.specs.Refusals.{Answer, ◌or_else◌, answer}
use Rattle.rules.specs.Bytes.{word32, table}
use Rattle.rules.specs.Reading.{reading_fault, unit_at, scene_at, unit_answer, scene_answer}
use Rattle.rules.specs.Seal.{no_room, if_done}

-- the figures of a row, in document 01's order
abbrev pub unit_figures : UnitRow → List ℕ
unit_figures u = u.least ∷ u.greatest ∷ u.size ∷ u.packets ∷ u.lost ∷ u.damaged ∷ []

abbrev pub scene_figures : SceneRow → List ℕ
scene_figures s = s.first ∷ s.pictures ∷ s.repeated ∷ s.longest ∷ s.score ∷ s.peak ∷ s.change ∷ []

-- those of unit row j and of scene row j of the record r
abbrev pub unit_row : List ℕ → ℕ → List ℕ
unit_row r j = unit_figures (unit_at r j)

abbrev pub scene_row : List ℕ → ℕ → List ℕ
scene_row r j = scene_figures (scene_at r j)

-- rows 0 to n − 1 over the first n of the lent rows: those after them are as they were
abbrev pub rows_over : ℕ → (ℕ → List ℕ) → List (List ℕ) → List (List ℕ)
rows_over n row lent = table n 0 row ++ drop n lent

-- of a record r that has n such rows, where so many are lent: 16, 17 and 18 of reading, then 15 with the number of
-- rows needed, otherwise that number
unfoldable pub rows_answer : List ℕ → ℕ → ℕ → Answer ℕ
rows_answer r n lent = answer (reading_fault r or_else no_room lent n) n

-- what a call promises of a record r that has n rows, of which row j is `row j`: the lent rows before, the answer,
-- the lent rows after
pub record RowsRead (r : List ℕ) (n : ℕ) (row : ℕ → List ℕ) (before : List (List ℕ)) (a : Answer ℕ)
    (after : List (List ℕ)) : Type 0 where
  pub answered : a ≡ rows_answer r n (length before)
  pub given : after ≡ if_done (rows_answer r n (length before)) (rows_over n row before) before

abbrev pub UnitsRead : List ℕ → List (List ℕ) → Answer ℕ → List (List ℕ) → Type 0
UnitsRead r = RowsRead r (word32 r 8) (unit_row r)

abbrev pub ScenesRead : List ℕ → List (List ℕ) → Answer ℕ → List (List ℕ) → Type 0
ScenesRead r = RowsRead r (word32 r 16) (scene_row r)

-- ---- what the laws say

-- a call that is done gives each row that reading row by row gives
abbrev pub EachUnit : Type 0
EachUnit =
    (r : List ℕ) (before : List (List ℕ)) (n : ℕ) (after : List (List ℕ)) → UnitsRead r before (Ok n) after →
    (j : ℕ) → j < n → (unit_answer r j ≡ Ok (unit_at r j)) × (get_or after j [] ≡ unit_row r j)

abbrev pub EachScene : Type 0
EachScene =
    (r : List ℕ) (before : List (List ℕ)) (n : ℕ) (after : List (List ℕ)) → ScenesRead r before (Ok n) after →
    (j : ℕ) → j < n → (scene_answer r j ≡ Ok (scene_at r j)) × (get_or after j [] ≡ scene_row r j)
