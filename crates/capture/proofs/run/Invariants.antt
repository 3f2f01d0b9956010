-- `run` meets its contract. The invariant: the bytes before i are taken in.
use Prim.Native.Nat.{◌-◌, ◌≤◌}
use lib.ListN.{length, take}
use Rattle.capture.specs.Contract.{Goes}
use Rattle.capture.proofs.run.Given as goal

abbrev pub invariant-loop-i : goal.invariant-loop-i
invariant-loop-i l =
    (l.i ≤ length l.piece) × Goes l.initial.kept l.initial.table l.initial.m (take l.i l.piece) l.kept l.table l.m

abbrev pub decreases-loop-i : goal.decreases-loop-i
decreases-loop-i l = length l.piece - l.i
