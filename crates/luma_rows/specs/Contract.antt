-- What each function promises.
use Rattle.std.specs.Prelude.{◌≡◌, ℕ, ◌+◌, ◌-◌, ◌*◌, ◌%◌, ◌^◌, ◌<◌, ◌≤◌, List, [], ◌++◌, length, take, slice_index}
use Rattle.luma_sums.specs.Sums.{run}
use Rattle.luma_tiles.specs.Bins.{Counts, Kept}
use Rattle.luma_changes.specs.declared.sums.Moves.{Moves}
use Rattle.luma_state.specs.declared.Grid.{Grid}
use Rattle.luma_state.specs.declared.Progress.{Progress}
use Rattle.luma_rows.specs.declared.Taken.{Taken}
use Rattle.luma_state.specs.State.{Sane, moves_in, Fits, Goes}
use Rattle.luma_state.specs.Steps.{placed_at}

-- a block row's old pixels
pub record Keeps (base w : ℕ) (picture before kept : List ℕ) : Type 0 where
  pub size : length kept ≡ length before
  pub same : length before ≡ 240 → (j : ℕ) → j < w → slice_index kept j ≡ slice_index picture (base + j)

-- the place and the count of bytes after `used` more
abbrev pub moved_to : Progress → ℕ → ℕ → ℕ → Progress
moved_to s row col used = placed_at s ((s.fed + used) % 2 ^ 64) s.line row col s.left (moves_in s)

-- the start of the block row j on, or of the surplus rows
abbrev pub next_row : Grid → Progress → ℕ → Moves → Progress
next_row g s j m = placed_at s s.fed (s.line + j) 0 0 (g.bytes - g.lines * g.side * g.width) m

-- the end of a block row: asked for and promised
pub record AtRowEnd (g : Grid) (s : Progress) : Type 0 where
  pub fits : Fits g
  pub few : s.pictures ≤ 750
  pub line : s.line < g.lines
  pub row : s.row ≡ g.side
  pub col : s.col ≡ 0

pub record RowEnded (g : Grid) (s : Progress) (sums bins picture : List ℕ) (r : Progress)
    (sums' bins' picture' : List ℕ) : Type 0 where
  pub state : Moves
  pub is : r ≡ next_row g s 1 state
  pub goes : (luma : List ℕ) → Goes g s luma sums bins picture [] r luma sums' bins' picture'

-- the w pixels from `base` on are the first w bytes of the string
pub record Puts (base w : ℕ) (rest before after : List ℕ) : Type 0 where
  pub size : length after ≡ length before
  pub same : length before ≡ 14104 → (j : ℕ) → j < w → slice_index after (base + j) ≡ slice_index rest j
  pub low : (q : ℕ) → q < base → slice_index after q ≡ slice_index before q
  pub high : (q : ℕ) → base + w ≤ q → slice_index after q ≡ slice_index before q

-- j whole rows of blocks of one byte: asked for and promised
pub record AtPlainRows (g : Grid) (s : Progress) (rest : List ℕ) (j : ℕ) : Type 0 where
  pub fits : Fits g
  pub more : s.pictures < 750
  pub some : 0 < j
  pub lines : s.line + j ≤ g.lines
  pub row : s.row ≡ 0
  pub col : s.col ≡ 0
  pub side : g.side ≡ 1
  pub same : g.width ≡ g.columns
  pub there : j * g.columns ≤ length rest

-- rows r to r + j of pixels more
pub record CountedRows (w h r j base : ℕ) (pixels before after : List ℕ) : Type 0 where
  pub kept : Kept base before after
  pub more : length pixels ≡ 14104 → (p : List ℕ) → length p ≡ r * w → Counts w h base p before →
      Counts w h base (p ++ run pixels (r * w) (j * w)) after

pub record PlainRows (g : Grid) (s : Progress) (j : ℕ) (bins picture rest : List ℕ) (r : Progress)
    (bins' picture' : List ℕ) : Type 0 where
  pub state : Moves
  pub is : r ≡ next_row g (moved_to s 0 0 (j * g.columns)) j state
  pub goes : (luma sums : List ℕ) →
      Goes g s luma sums bins picture (take (j * g.columns) rest) r luma sums bins' picture'

-- Before a picture's end is looked at
pub record Loose (g : Grid) (s : Progress) : Type 0 where
  pub few : s.pictures ≤ 750
  pub line : s.line ≤ g.lines
  pub row : s.line < g.lines → s.row < g.side
  pub col : s.line < g.lines → s.col < g.width

-- bytes were taken in, at least one
pub record Took (g : Grid) (s : Progress) (sums bins picture rest : List ℕ) (r : Taken)
    (sums' bins' picture' : List ℕ) : Type 0 where
  pub some : 0 < r.used
  pub most : r.used ≤ length rest
  pub loose : Loose g r.state
  pub same : r.state.pictures ≡ s.pictures
  pub goes : (luma : List ℕ) →
      Goes g s luma sums bins picture (take r.used rest) r.state luma sums' bins' picture'

-- what taking in asks
pub record Taking (g : Grid) (s : Progress) (rest : List ℕ) : Type 0 where
  pub fits : Fits g
  pub sane : Sane g s
  pub more : s.pictures < 750
  pub some : 0 < length rest
