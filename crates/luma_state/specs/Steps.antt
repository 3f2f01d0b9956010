-- How the scalars change. No step lists them all: a step says the new place, or the new counts.
use Rattle.std.specs.Prelude.{ℕ}
use Rattle.luma_changes.specs.declared.sums.Moves.{Moves}
use Rattle.luma_state.specs.declared.Progress.{Progress}

-- bytes fed, the place in the picture, and how its pixels moved so far
abbrev pub placed_at : Progress → ℕ → ℕ → ℕ → ℕ → ℕ → Moves → Progress
placed_at s fed line row col left m =
    record {
      status = s.status;
      place = s.place;
      fed = fed;
      pictures = s.pictures;
      fresh = s.fresh;
      line = line;
      row = row;
      col = col;
      left = left;
      ups = m.up;
      downs = m.down;
      squares = m.squares;
    }

-- the refusal that stands, whole pictures, and those of them that are not repeated
abbrev pub counted_as : Progress → ℕ → ℕ → ℕ → ℕ → Progress
counted_as s status place pictures fresh =
    record {
      status = status;
      place = place;
      fed = s.fed;
      pictures = pictures;
      fresh = fresh;
      line = s.line;
      row = s.row;
      col = s.col;
      left = s.left;
      ups = s.ups;
      downs = s.downs;
      squares = s.squares;
    }
