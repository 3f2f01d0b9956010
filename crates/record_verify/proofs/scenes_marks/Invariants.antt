-- `scenes_marks` meets its contract. The loop's invariant: the first mark that fails of all rows is that of the rows
-- which are left. Assumes nothing.
use Prim.Native.Nat.{ℕ}
use mathlib.Core.Path.{◌≡◌}
use Rattle.rules.specs.Reading.{scene_at}
use Rattle.record_verify.specs.Marks.{scene_checks, scenes_checks, first_failing}
use Rattle.record_verify.proofs.Rows.{Left}
use Rattle.record_verify.proofs.scenes_marks.Given as goal

abbrev pub invariant-loop-j : goal.invariant-loop-j
invariant-loop-j l =
    Left (λ (k : ℕ). scene_checks l.h k (scene_at l.bytes k)) l.counts.scenes l.j
    ≡ first_failing (scenes_checks l.bytes)
