-- The loop's invariant: x is added to the first of the elements.
use Rattle.std.proofs.Common.{◌≡◌, ◌++◌, map, take, drop}
use Rattle.std.specs.Float.{binary64}
use Rattle.std.specs.Float.Ieee.{add}
use Rattle.loss_spread.proofs.add.Given as goal

abbrev pub invariant-loop-y : goal.invariant-loop-y
invariant-loop-y l =
    l.y-items ≡ map (λ y. add binary64 y l.x) (take l.y-index l.initial.y-items) ++ drop l.y-index l.initial.y-items
