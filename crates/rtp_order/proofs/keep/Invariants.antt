use Rattle.std.proofs.Common.{◌≡◌, ◌≤◌, ◌++◌, length, take, drop}
use Rattle.rtp_order.specs.Order.{new_places}
use Rattle.rtp_order.proofs.keep.Given as goal

abbrev pub invariant-loop-i : goal.invariant-loop-i
invariant-loop-i l =
    (l.kept ≤ l.i) × (length l.rows ≡ length l.initial.rows)
    × (take l.kept l.rows ++ new_places l.place (drop l.i l.rows) ≡ new_places 0 l.initial.rows)
