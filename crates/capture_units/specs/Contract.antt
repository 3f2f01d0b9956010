-- What each function promises.
use Rattle.std.specs.Prelude.{◌≡◌, ℕ, ◌+◌, ◌%◌, ◌^◌, ◌<◌, ◌≤◌, Bool, true, false, List, [], ◌∷◌, ◌++◌, length}
use Rattle.std.specs.Prelude.{◌==◌, ◌≢◌, nat_lt, slice_index_or}
use Rattle.rules.specs.declared.UnitRow.{UnitRow}
use Rattle.rules.specs.Bytes.{pick, smaller, larger}
use Rattle.rules.specs.Packets.{is_damaged}
use Rattle.capture_cells.specs.declared.Cell.{Cell}
use Rattle.capture_units.specs.Units.{marks, loss_behind, units_of, beginnings}
use Rattle.capture_units.specs.declared.Unit.{Unit}
use Rattle.capture_units.specs.declared.Units.{Units}
use Rattle.capture_units.specs.State.{Stands}

-- what is true of the table w and the state s before a cell, and of w' and r after it
abbrev pub TakesIn : List ℕ → Units → Units → List ℕ → List Cell → Cell → Type 0
TakesIn w s r w' cs c = Stands w s cs → length (beginnings (cs ++ c ∷ [])) ≤ 750 → Stands w' r (cs ++ c ∷ [])

-- `add_cell`: the table before, the state, the cell, the state and the table after
abbrev pub Added : List ℕ → Units → Cell → Units → List ℕ → Type 0
Added w s c r w' = (cs : List Cell) → TakesIn w s r w' cs c

-- `is_full`: the state, the cell, the answer
abbrev pub Full : Units → Cell → Bool → Type 0
Full s c r = (w : List ℕ) (cs : List Cell) → Stands w s cs → r ≡ nat_lt 750 (length (beginnings (cs ++ c ∷ [])))

-- `row`: the table, the unit's number, the row. 2 ^ 24 cells would have more than 2 ^ 28 bytes
abbrev pub Row : List ℕ → ℕ → UnitRow → Type 0
Row w j r =
    (s : Units) (cs : List Cell) (d : UnitRow) → Stands w s cs → length cs < 2 ^ 24 → j < length (units_of cs) →
    r ≡ slice_index_or (units_of cs) j d

-- ---- of the functions within

abbrev pub loss_of : Units → Cell → ℕ
loss_of s c = pick (s.count == 0) 0 (loss_behind s.previous c)

abbrev pub begun_by : ℕ → ℕ → Unit
begun_by time lost = record { least = time; greatest = time; packets = 1; lost = lost; damaged = 0 }

abbrev pub joined_by : Unit → ℕ → ℕ → Unit
joined_by u time lost =
    record {
      least = smaller u.least time;
      greatest = larger u.greatest time;
      packets = (u.packets + 1) % 2 ^ 64;
      lost = (u.lost + lost) % 2 ^ 64;
      damaged = u.damaged;
    }

abbrev pub marked_by : Unit → Unit
marked_by u =
    record {
      least = u.least;
      greatest = u.greatest;
      packets = u.packets;
      lost = u.lost;
      damaged = (u.damaged + 1) % 2 ^ 64;
    }

abbrev pub taken_into : Units → ℕ → ℕ → ℕ → Units
taken_into s count c lost =
    record { count = count; previous = c; packets = (s.packets + 1) % 2 ^ 64; lost = (s.lost + lost) % 2 ^ 64 }

-- of a cell that begins a unit, of one that does not, and of a damaged one
abbrev pub Begun : List ℕ → Units → Cell → Units → List ℕ → Type 0
Begun w s c r w' = (cs : List Cell) → ((s.count ≢ 0) → marks c ≡ true) → TakesIn w s r w' cs c

abbrev pub Joined : List ℕ → Units → Cell → Units → List ℕ → Type 0
Joined w s c r w' =
    (cs : List Cell) → (s.count ≢ 0) → is_damaged c.condition ≡ false → c.start ≡ false → TakesIn w s r w' cs c

abbrev pub Marked : List ℕ → Units → List ℕ → Type 0
Marked w s w' = (c : Cell) (cs : List Cell) → (s.count ≢ 0) → is_damaged c.condition ≡ true →
    TakesIn w s s w' cs c
