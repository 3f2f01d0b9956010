-- The loop's invariant: the calls before `at` were made, and their
-- outcomes stand in out up to `to`.
use Prim.Native.Nat.{◌-◌, ◌≤◌}
use mathlib.Core.Path.{◌≡◌}
use lib.ListN.{length}
use Rattle.sample.specs.Owned.{state_of}
use Rattle.replay.proofs.Laws.{Sofar}
use Rattle.replay.proofs.all.Given as goal

abbrev pub invariant-loop-at : goal.invariant-loop-at
invariant-loop-at l =
    (l.to ≤ length l.out)
    × (length l.out ≡ length l.initial.out)
    × Sofar (state_of l.initial.sample) l.script l.initial.out l.at l.to (state_of l.sample) l.out

abbrev pub decreases-loop-at : goal.decreases-loop-at
decreases-loop-at l = length l.script - l.at
