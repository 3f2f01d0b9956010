-- What the table and the state beside it stand for.
use Rattle.std.specs.Prelude.{◌≡◌, ℕ, ◌+◌, ◌*◌, ◌%◌, ◌^◌, ◌<◌, ◌≤◌, List, map, length, set, slice_index}
use Rattle.std.specs.Prelude.{slice_index_or}
use Rattle.rules.specs.declared.UnitRow.{UnitRow}
use Rattle.rules.specs.Bytes.{total}
use Rattle.capture_cells.specs.declared.Cell.{Cell}
use Rattle.capture_units.specs.Units.{units_of, last_counter}
use Rattle.capture_units.specs.declared.Unit.{Unit}
use Rattle.capture_units.specs.declared.Units.{Units}

-- the five words of unit j
abbrev pub unit_at : List ℕ → ℕ → Unit
unit_at w j =
    record {
      least = slice_index w (5 * j);
      greatest = slice_index w (5 * j + 1);
      packets = slice_index w (5 * j + 2);
      lost = slice_index w (5 * j + 3);
      damaged = slice_index w (5 * j + 4);
    }

abbrev pub unit_set : List ℕ → ℕ → Unit → List ℕ
unit_set w j u =
    set (set (set (set (set w (5 * j) u.least) (5 * j + 1) u.greatest) (5 * j + 2) u.packets) (5 * j + 3) u.lost)
    (5 * j + 4) u.damaged

-- a row as words hold it: numbers modulo 2 ^ 64. The size is 184 for each cell and has no word
abbrev pub held : UnitRow → Unit
held u =
    record {
      least = u.least;
      greatest = u.greatest;
      packets = u.packets % 2 ^ 64;
      lost = u.lost % 2 ^ 64;
      damaged = u.damaged % 2 ^ 64;
    }

abbrev pub no_unit : UnitRow
no_unit = record { least = 0; greatest = 0; size = 0; packets = 0; lost = 0; damaged = 0 }

-- the table w and the state s stand for the cells cs of PID, from the first on that is not damaged
pub record Stands (w : List ℕ) (s : Units) (cs : List Cell) : Type 0 where
  pub size : length w ≡ 3750
  pub few : length (units_of cs) ≤ 750
  pub count : s.count ≡ length (units_of cs)
  pub previous : s.previous ≡ last_counter cs
  pub packets : s.packets ≡ total (map (λ u. u.packets) (units_of cs)) % 2 ^ 64
  pub lost : s.lost ≡ total (map (λ u. u.lost) (units_of cs)) % 2 ^ 64
  pub rows : (j : ℕ) → j < length (units_of cs) → unit_at w j ≡ held (slice_index_or (units_of cs) j no_unit)
