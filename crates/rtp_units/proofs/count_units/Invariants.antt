use Prim.Native.Nat.{◌+◌, ◌≤◌}
use mathlib.Core.Path.{◌≡◌}
use lib.ListN.{length}
use Rattle.rtp_units.specs.Units.{no_unit}
use Rattle.rules.specs.Rtp.{RtpLists, rtp_units_in}
use Rattle.rtp_units.proofs.Units.{units_onto, from}
use Rattle.rtp_units.proofs.count_units.Given as goal

abbrev pub invariant-loop-i : goal.invariant-loop-i
invariant-loop-i l =
    (l.units ≤ l.i)
    × ((k : RtpLists) → k.marker ≡ l.marker →
    l.units + length (units_onto no_unit (from k l.rows l.i)) ≡ length (rtp_units_in k l.rows))
