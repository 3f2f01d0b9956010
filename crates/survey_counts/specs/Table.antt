-- The table of counts: what it holds, and what cells more leave.
use Rattle.std.specs.Prelude.{◌≡◌, ℕ, ◌+◌, ◌<◌, ◌&&◌, List, ◌++◌, length, ◌==◌, slice_index}
use Rattle.rules.specs.Bytes.{count}
use Rattle.rules.specs.Packets.{is_good}
use Rattle.capture_cells.specs.declared.Cell.{Cell}

-- how many of some cells are good and have this identifier: the rules' good_of (proofs/Counts, tally-good)
unfoldable pub tally : List Cell → ℕ → ℕ
tally cs id = count (λ c. is_good c.condition && c.identifier == id) cs

abbrev pub count_in : List ℕ → ℕ → ℕ
count_in t id = slice_index t id

-- the table holds the counts of the cells
pub record Table (t : List ℕ) (cs : List Cell) : Type 0 where
  pub at : (id : ℕ) → id < 8192 → slice_index t id ≡ tally cs id

-- the table with these cells more
pub record Tallied (t : List ℕ) (cs : List Cell) (t' : List ℕ) : Type 0 where
  pub size : length t' ≡ length t
  pub counts : (xs : List Cell) → length t ≡ 8192 → length xs + length cs < 4294967296 → Table t xs →
      Table t' (xs ++ cs)
