use Rattle.rules.specs.EffectiveLoss.{loss_of}
use Rattle.loss_spread.proofs.Steps.{half_is}
use Rattle.loss_spread.proofs.loss_of.Goals as goal

pub returns-then-own : goal.returns-then-own
unfolding loss_of
returns-then-own c = rw (← half_is, c.if-own.true)

pub returns-else-own : goal.returns-else-own
unfolding loss_of
returns-else-own c = rw (← half_is, c.if-own.false)
