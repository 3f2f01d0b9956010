-- The rule tries 24 and 15 in this order, as the code does. The loop's invariant: the
-- entries are those of so many gaps.
use mathlib.Core.Path.{◌≡◌}
use Rattle.gap_runs.proofs.Filling.{holding}
use Rattle.gap_runs.proofs.gap_table.Given as goal

abbrev pub invariant-loop : goal.invariant-loop
invariant-loop l = l.entries ≡ holding l.counter l.size
