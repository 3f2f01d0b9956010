-- The loop's invariant: the entries from l on are new, those before it as they were.
use mathlib.Core.Path.{◌≡◌}
use Rattle.gap_runs.proofs.Filling.{partly}
use Rattle.gap_runs.proofs.grow.Given as goal

abbrev pub invariant-loop-l : goal.invariant-loop-l
invariant-loop-l l = l.entries ≡ partly l.l l.initial.entries
