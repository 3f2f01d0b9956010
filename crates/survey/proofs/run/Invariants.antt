-- `run` meets its contract: step by step, what the walk tells is counted.
use Prim.Native.Nat.{◌-◌, ◌≤◌}
use lib.ListN.{length, take}
use Rattle.survey.specs.Contract.{Goes}
use Rattle.survey.proofs.run.Given as goal

abbrev pub invariant-loop-i : goal.invariant-loop-i
invariant-loop-i l =
    (l.i ≤ length l.piece) × Goes l.initial.kept l.initial.counts l.initial.s (take l.i l.piece) l.kept l.counts l.s

abbrev pub decreases-loop-i : goal.decreases-loop-i
decreases-loop-i l = length l.piece - l.i
