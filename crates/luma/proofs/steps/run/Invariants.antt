use Rattle.std.proofs.Common.{◌-◌, ◌≤◌, length, take}
use Rattle.luma_state.specs.State.{Sane, Goes}
use Rattle.luma.proofs.steps.run.Given as goal

abbrev pub invariant-loop-at : goal.invariant-loop-at
invariant-loop-at l =
    (l.at ≤ length l.piece) × Sane l.g l.s
    × Goes l.g l.initial.s l.initial.luma l.initial.sums l.initial.bins l.initial.picture
    (take l.at l.piece) l.s l.luma l.sums l.bins l.picture

abbrev pub decreases-loop-at : goal.decreases-loop-at
decreases-loop-at l = length l.piece - l.at
