-- `units_marks` meets its contract. The loop's invariant: the first mark that fails of all rows is that of the rows
-- which are left. Assumes nothing.
use Prim.Native.Nat.{ℕ}
use mathlib.Core.Path.{◌≡◌}
use Rattle.rules.specs.Reading.{unit_at}
use Rattle.record_verify.specs.Marks.{unit_checks, units_checks, first_failing}
use Rattle.record_verify.proofs.Rows.{Left}
use Rattle.record_verify.proofs.units_marks.Given as goal

abbrev pub invariant-loop-j : goal.invariant-loop-j
invariant-loop-j l =
    Left (λ (k : ℕ). unit_checks k (unit_at l.bytes k)) l.fn.counts.units l.j
    ≡ first_failing (units_checks l.bytes)
