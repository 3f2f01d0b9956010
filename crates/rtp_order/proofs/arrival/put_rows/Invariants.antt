use Rattle.std.proofs.Common.{◌≡◌, ◌+◌, ◌*◌, ◌≤◌, ◌++◌, length, take, drop}
use Rattle.rules.specs.Rtp.{rows_from, places_after, places}
use Rattle.rtp_order.proofs.arrival.put_rows.Given as goal

abbrev pub invariant-loop-i : goal.invariant-loop-i
invariant-loop-i l =
    (length l.rows ≡ length l.sequence)
    × (134250496 ≤ l.place + 32768 * l.i) × (l.place ≤ 134283263 + 32768 * l.i)
    × (take l.i l.rows ++ rows_from l.i (places_after l.place l.last (drop l.i l.sequence))
    ≡ rows_from 0 (places l.sequence))
