-- What the steps from rows in order to units promise each other; the rule itself is Rtp.
use Rattle.std.specs.Prelude.{ℕ, ◌+◌, ◌*◌, ◌≡◌, Bool, true, not, List, map, length, get_or, eqb}
use Rattle.rtp_units.specs.declared.lists.Lists.{Lists}
use Rattle.rules.specs.declared.UnitRow.{UnitRow}
use Rattle.rules.specs.Refusals.{Answer}
use Rattle.rules.specs.Bytes.{pick, smaller, larger, end_to_end}
use Rattle.rules.specs.Record.{unit_bytes}
use Rattle.rules.specs.Seal.{no_room, over}
use Rattle.rules.specs.Rtp.{RtpLists, rtp_lists, arrival_of, rtp_units_in, answer_of, buffer_of}

-- what the lists say
abbrev pub told : Lists → RtpLists
told l = rtp_lists l.marker.now l.time.now l.size.now

abbrev pub no_unit : UnitRow
no_unit = record { least = 0; greatest = 0; size = 0; packets = 0; lost = 0; damaged = 0 }

-- a unit with one row more behind its others
abbrev pub joined : UnitRow → ℕ → ℕ → ℕ → UnitRow
joined u time size missing =
    record {
      least = pick (eqb u.packets 0) time (smaller u.least time);
      greatest = larger u.greatest time;
      size = u.size + size;
      packets = u.packets + 1;
      lost = u.lost + missing;
      damaged = 0;
    }

-- row i, in order, ends a unit: by its marker, or as the last
abbrev pub ends_at : List ℕ → List ℕ → ℕ → Bool
ends_at marker rows i =
    pick (not (eqb (get_or marker (arrival_of (get_or rows i 0)) 0) 0)) true (eqb (i + 1) (length rows))

-- so many units, whatever times and lengths are
abbrev pub Counts : List ℕ → List ℕ → ℕ → Type 0
Counts marker rows n = (l : RtpLists) → l.marker ≡ marker → n ≡ length (rtp_units_in l rows)

-- unit rows end to end
abbrev pub rows_bytes : List UnitRow → List ℕ
rows_bytes us = end_to_end (map unit_bytes us)

-- they stand at a buffer's front, and nothing past them is altered
abbrev pub Front : List UnitRow → List ℕ → List ℕ → Type 0
Front us buffer after = after ≡ over (rows_bytes us) buffer

-- what is answered of some units, and what their buffer holds then
pub record Told (us : List UnitRow) (buffer : List ℕ) (r : Answer ℕ) (after : List ℕ) : Type 0 where
  pub told : r ≡ answer_of (no_room (length buffer) (32 * length us)) us
  pub left : after ≡ buffer_of (no_room (length buffer) (32 * length us)) us buffer
