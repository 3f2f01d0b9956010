use Rattle.rules.specs.EffectiveLoss.{is_probability}
use Rattle.loss_spread.proofs.Steps.{one-is}
use Rattle.loss.proofs.Steps.{zero_is}
use Rattle.loss.proofs.is_probability.Goals as goal

pub returns-then-p : goal.returns-then-p
unfolding is_probability
returns-then-p c = rw (← zero_is, c.if-p.true, one-is)

pub returns-else-p : goal.returns-else-p
unfolding is_probability
returns-else-p c = rw (← zero_is, c.if-p.false)
