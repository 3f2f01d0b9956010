-- What moves from one reduced picture to the next: running sums of its pixels' differences e, from
-- which V of document 01 is made.
use Rattle.std.specs.Prelude.{◌≡◌, ℕ, ◌+◌, ◌%◌, ◌^◌, ◌<◌, ◌≤◌, List, ◌++◌, length, take, drop, slice_index}
use Rattle.luma_laws.specs.Tallies.{ups, downs, squared}
use Rattle.luma_changes.specs.declared.sums.Moves.{Moves}

-- the figures m are those of the first pixels p of the new picture, modulo 2 ^ 32; `old` is the whole picture before
pub record Figures (old p : List ℕ) (m : Moves) : Type 0 where
  pub up : m.up % 2 ^ 32 ≡ ups old p % 2 ^ 32
  pub down : m.down % 2 ^ 32 ≡ downs old p % 2 ^ 32
  pub both : m.squares % 2 ^ 32 ≡ squared old p % 2 ^ 32

-- what `compare_run` asks: as many pixels of each slice, at most a row
pub record Paired (kept made : List ℕ) : Type 0 where
  pub same : length kept ≡ length made
  pub few : length made ≤ 240

-- k pixels more, which stand in `made` from `from` on, where `kept` has the old picture's pixels of
-- the same places from `at` on:
-- whatever the old picture and the new one's first pixels p, figures of p become those of p and these
pub record Compared (kept : List ℕ) (at : ℕ) (made : List ℕ) (from k : ℕ) (m r : Moves) : Type 0 where
  pub more : (old p : List ℕ) → ((j : ℕ) → j < k → slice_index old (length p + j) ≡ slice_index kept (at + j)) →
      Figures old p m → Figures old (p ++ take k (drop from made)) r
