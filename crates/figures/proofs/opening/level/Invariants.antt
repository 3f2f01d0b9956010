-- `level` tries 5, 4, 3, 2, 1 in this order, as the rule does.
use Rattle.std.proofs.Common.{◌≡◌, ◌-◌, ◌≤◌}
use Rattle.rules.specs.Opening.{level_up_to}
use Rattle.figures.proofs.opening.level.Given as goal

abbrev pub invariant-loop-k : goal.invariant-loop-k
invariant-loop-k l = (1 ≤ l.k) × (level_up_to (l.k - 1) l.height ≡ level_up_to 5 l.height)
