-- `compare` meets its contract: the first c pixels are compared, or all, where there are fewer.
use Rattle.std.proofs.Common.{◌-◌, length, min}
use Rattle.luma_changes.specs.Figures.{Compared}
use Rattle.luma_rows.proofs.compare.Given as goal

abbrev pub invariant-loop-c : goal.invariant-loop-c
invariant-loop-c l = Compared l.old 0 l.new 0 (min l.c (length l.new)) l.initial.sums l.sums

abbrev pub decreases-loop-c : goal.decreases-loop-c
decreases-loop-c l = length l.new - l.c
