-- The loop's invariant: the opening's answer and the calls before `at` take `to` bytes, and there is room for them.
use Prim.Native.Nat.{◌-◌, ◌≤◌}
use lib.ListN.{length}
use Rattle.replay_script.proofs.Laws.{Taken}
use Rattle.replay_script.proofs.has_room.Given as goal

abbrev pub invariant-loop-at : goal.invariant-loop-at
invariant-loop-at l = (l.to ≤ l.most) × Taken l.script l.at l.to

abbrev pub decreases-loop-at : goal.decreases-loop-at
decreases-loop-at l = length l.script - l.at
