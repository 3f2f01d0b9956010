use Prim.Native.Nat.{◌-◌, ◌≤◌}
use lib.ListN.{length}
use Rattle.capture_walk.proofs.Turns.{Still}
use Rattle.capture_walk.proofs.next.Given as goal

abbrev pub invariant-loop-at : goal.invariant-loop-at
invariant-loop-at l =
    (l.i ≤ l.at) × (l.at ≤ length l.piece) × Still l.initial.kept l.initial.w l.piece l.i l.kept l.w l.at

abbrev pub decreases-loop-at : goal.decreases-loop-at
decreases-loop-at l = length l.piece - l.at
