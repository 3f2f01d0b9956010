-- The outer loop's invariant: the units from i on, on the lists as they are, give what all give on the lists at the
-- start. The inner loop's: what is left of unit i's loss, on the lists as they are, gives what all of it gives.
use mathlib.Core.Path.{◌≡◌}
use lib.ListN.{length, drop}
use Rattle.rules.specs.EffectiveLoss.{both, unit_losses}
use Rattle.loss_spread.proofs.Steps.{left}
use Rattle.loss_spread.proofs.spread.Given as goal

abbrev pub invariant-loop-k : goal.invariant-loop-k
invariant-loop-k l =
    (length l.keys ≡ l.n) × (length l.plain ≡ l.n)
    × (left l.n l.probabilities l.i l.loss l.own l.k l.rest (both l.keys l.plain)
    ≡ left l.n l.probabilities l.i l.loss l.own l.initial.k l.initial.rest (both l.initial.keys l.initial.plain))

abbrev pub invariant-loop-i : goal.invariant-loop-i
invariant-loop-i l =
    (length l.keys ≡ l.n) × (length l.plain ≡ l.n)
    × (unit_losses l.i (drop l.i l.losses) (drop l.i l.probabilities) (both l.keys l.plain)
    ≡ unit_losses 0 l.losses l.probabilities (both l.initial.keys l.initial.plain))
