-- What the end of a picture promises. What the arrays stand for is `Live`, in the crate `luma_state`.
use Rattle.std.specs.Prelude.{◌≡◌, ℕ, ◌+◌, ◌-◌, ◌*◌, ◌/◌, ◌%◌, ◌^◌, ◌<◌, ◌≤◌, Bool, List, [], ◌==◌, ◌≢◌, slice_index}
use Rattle.std.specs.Prelude.{slice_set}
use Rattle.rules.specs.Bytes.{pick}
use Rattle.luma_changes.specs.Changes.{Changed}
use Rattle.luma_cuts.specs.Counts.{two_at, least_at}
use Rattle.luma_state.specs.declared.Grid.{Grid}
use Rattle.luma_state.specs.declared.Progress.{Progress}
use Rattle.luma_picture.specs.declared.Settled.{Settled}
use Rattle.luma_state.specs.State.{slot, Fits, Goes}
use Rattle.luma_state.specs.Layout.{kept_at, repeats_at, changes_at}
use Rattle.luma_state.specs.Steps.{placed_at, counted_as}

-- 1 if no pixel moved since the previous picture
abbrev pub again_of : Progress → ℕ
again_of s = pick (s.pictures == 0) 0 (pick (s.squares % 2 ^ 32 == 0) 1 0)

-- q of the picture that ends, rounded to the nearest or cut off: 0 for the first
pub record ChangeOf (g : Grid) (s : Progress) (rounds : Bool) (r : ℕ) : Type 0 where
  pub first : s.pictures ≡ 0 → r ≡ 0
  pub later : (s.pictures ≢ 0) →
      Changed (g.lines * g.columns) (s.ups % 2 ^ 32) (s.downs % 2 ^ 32) (s.squares % 2 ^ 32) rounds r

-- the cut score that picture i settles, where the last one kept what this one needs; what it keeps for the next; and
-- that each count is a u32
pub record ScoreOf (bins : List ℕ) (i kept : ℕ) (r : Settled) : Type 0 where
  pub early : i < 4 → r.score ≡ 0
  pub later : 4 ≤ i → kept ≡ two_at bins (slot (i - 4)) (slot (i - 2)) (slot (i - 1)) →
      r.score ≡ least_at bins (slot (i - 4)) (slot (i - 3)) (slot (i - 2)) (slot (i - 1)) (slot i)
  pub next : 3 ≤ i → r.kept ≡ two_at bins (slot (i - 3)) (slot (i - 1)) (slot i)
  pub small : (k : ℕ) → slice_index bins k < 2 ^ 32

-- picture i's change, its bit in the map of repeats, the cut score of picture i - 2, and what the next one needs
abbrev pub bit_of : ℕ → ℕ → ℕ
bit_of i again = again * 2 ^ (i % 64) % 2 ^ 64

abbrev pub with_bit : List ℕ → ℕ → ℕ → List ℕ
with_bit w i again = slice_set w (repeats_at + i / 64)
    ((slice_index w (repeats_at + i / 64) + bit_of i again) % 2 ^ 64)

abbrev pub noted : List ℕ → ℕ → ℕ → ℕ → ℕ → ℕ → List ℕ
noted w i q again score kept =
    slice_set (slice_set (with_bit (slice_set w (changes_at + i) q) i again) (98 + i) score) kept_at kept

-- the start of the next picture
abbrev pub next_picture : Progress → ℕ → Progress
next_picture s again =
    counted_as (placed_at s s.fed 0 0 0 0 (record { up = 0; down = 0; squares = 0 })) s.status s.place
    (s.pictures + 1)
    ((s.fresh + (1 - again)) % 2 ^ 64)

pub record AtPictureEnd (g : Grid) (s : Progress) : Type 0 where
  pub fits : Fits g
  pub more : s.pictures < 750
  pub line : s.line ≡ g.lines
  pub left : s.left ≡ 0

pub record PictureEnded (g : Grid) (s : Progress) (luma bins : List ℕ) (r : Progress)
    (luma' bins' : List ℕ) : Type 0 where
  pub is : r ≡ next_picture s (again_of s)
  pub goes : (sums picture : List ℕ) → Goes g s luma sums bins picture [] r luma' sums bins' picture
