use Prim.Native.Nat.{◌+◌, ◌-◌, ◌*◌, ◌≤◌, ◌<◌}
use mathlib.Core.Path.{◌≡◌}
use lib.ListN.{length}
use Rattle.rtp_units.specs.Units.{rows_bytes, told}
use Rattle.rules.specs.Rtp.{missing_at, rtp_units_in}
use Rattle.words.specs.Written.{written}
use Rattle.rules.specs.Seal.{over}
use Rattle.rules.specs.Bytes.{total, table}
use Rattle.rtp_units.proofs.Units.{units_onto, from}
use Rattle.rtp_units.proofs.write_units.Given as goal

abbrev pub invariant-loop-i : goal.invariant-loop-i
invariant-loop-i l =
    (l.unit.packets ≤ l.i) × (l.unit.size ≤ 65535 * l.i)
    × (l.unit.lost + total (table (length l.rows - l.i) l.i (missing_at l.rows)) < 536870912)
    × (length l.buffer ≡ length l.initial.buffer)
    × (32 * l.j + 32 * length (units_onto l.unit (from (told l.lists) l.rows l.i))
    ≤ length l.initial.buffer)
    × (written (32 * l.j)
    (rows_bytes (units_onto l.unit (from (told l.lists) l.rows l.i))) l.buffer
    ≡ over (rows_bytes (rtp_units_in (told l.lists) l.rows)) l.initial.buffer)
