-- Whole rows, and the rows of a block.
use Rattle.std.specs.Prelude.{ℕ, ◌+◌, ◌*◌, ◌%◌, ◌^◌, ◌≤◌, ◌<◌, ◌≡◌, List, ◌++◌, length, get_or, take}
use Rattle.luma_blocks.specs.declared.Spot.{Spot}
use Rattle.luma_laws.specs.Tallies.{block_tally}

-- The sums stand for block row b of a picture whose first bytes are p: modulo 2 ^ 32 they are its w block sums
pub record SumsOf (W n w b : ℕ) (p sums : List ℕ) : Type 0 where
  pub size : length sums ≡ 240
  pub each : (c : ℕ) → c < w → get_or sums c 0 % 2 ^ 32 ≡ block_tally W n b c p % 2 ^ 32

-- what `feed_rows` asks: blocks of n rows and columns, w of them in a row of W columns; a place in the block row
pub record Ready (W n w row col : ℕ) : Type 0 where
  pub some : 0 < n
  pub few : n ≤ 64
  pub room : w ≤ 240
  pub wide : W ≤ 1920
  pub above : row < n
  pub left : col < W

-- the place t bytes on, in the same row or at the start of the next
pub record Advanced (W : ℕ) (p : Spot) (t : ℕ) (r : Spot) : Type 0 where
  pub place : r.row * W + r.col ≡ p.row * W + p.col + t
  pub used : r.used ≡ p.used + t
  pub left : r.col < W
  pub below : r.row ≤ p.row + 1
  pub next : p.row < r.row → r.col ≡ 0

-- from row `row` of the block row and column `col` on, the first bytes of the piece were taken in, as many as r says,
-- up to the place that r says:
-- sums that stood for some block row and the picture's first bytes p, which end at that place, now stand for that row
-- and p with those bytes
pub record Going (W n w row col : ℕ) (piece before : List ℕ) (r : Spot) (after : List ℕ) : Type 0 where
  pub used : r.used ≤ length piece
  pub place : r.row * W + r.col ≡ row * W + col + r.used
  pub left : r.col < W
  pub below : r.row ≤ n
  pub stops : r.row ≡ n → r.col ≡ 0
  pub sums : (b : ℕ) (p : List ℕ) → length p ≡ (b * n + row) * W + col → SumsOf W n w b p before →
      SumsOf W n w b (p ++ take r.used piece) after

-- two whole rows of the block row come next, all blocks of which are there
pub record TwoNext (W n w : ℕ) (p : Spot) (size : ℕ) : Type 0 where
  pub col : p.col ≡ 0
  pub below : p.row + 2 ≤ n
  pub wide : w * n ≤ W
  pub there : p.used + 2 * W ≤ size

-- from one place to a later one, whatever was taken in before
pub record Onward (W n w : ℕ) (piece : List ℕ) (p : Spot) (before : List ℕ) (r : Spot) (after : List ℕ) : Type 0 where
  pub some : p.used < r.used
  pub goes : (row col : ℕ) (first : List ℕ) → Going W n w row col piece first p before →
      Going W n w row col piece first r after

-- and the piece or the block row is at its end
pub record FedRows (W n w row col : ℕ) (piece before : List ℕ) (r : Spot) (after : List ℕ) : Type 0 where
  pub going : Going W n w row col piece before r after
  pub all : r.used < length piece → r.row ≡ n
