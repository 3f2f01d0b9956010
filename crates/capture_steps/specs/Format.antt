-- What a capture's joined bytes show to one who knows no opening: refusals 4 to 8, and the cells. (In the rules,
-- capture_fault o c is earlier (format_fault c) (too_many_units o c).)
use Rattle.std.specs.Prelude.{ℕ, zero, suc, ◌+◌, List, [], ◌∷◌, map, drop}
use Rattle.rules.specs.Packets.{Packet, packets, shown, whole}
use Rattle.rules.specs.Capture.{all_frames}
use Rattle.capture_cells.specs.declared.Cell.{Cell}
use Rattle.capture_cells.specs.Cells.{cell_in, cell_of, head}
-- what they show first of 4 to 8: the rules'
unfoldable pub use Rattle.rules.specs.Capture.{format_fault}

abbrev pub head_of : Packet → Cell
head_of p = head (cell_of p)

-- the cells whose byte 3 is there, as their first four bytes show them: refusal 9 goes by these
unfoldable pub shown_cells : List ℕ → List Cell
shown_cells capture = map head_of (shown (packets 24 (all_frames capture)))

-- the cells of which all 188 bytes are there: units, counts and a survey go by these
unfoldable pub whole_cells : List ℕ → List Cell
whole_cells capture = map cell_of (whole (packets 24 (all_frames capture)))

-- n cells, one behind the other
unfoldable pub cells_from : ℕ → ℕ → ℕ → List ℕ → List Cell
cells_from zero time place s = []
cells_from (suc n) time place s = cell_in time place s ∷ cells_from n time (place + 188) (drop 188 s)
