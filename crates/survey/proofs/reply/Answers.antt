-- `reply` meets its contract, by whether a refusal stands.
use Rattle.survey.proofs.Steps.{reply-stopped, reply-done}
use Rattle.survey.proofs.reply.Goals as goal

pub returns-then-w-ne0 : goal.returns-then-w-ne0
returns-then-w-ne0 c = reply-stopped _ c.if-w-ne0.true c.listed_number.ensures

pub returns : goal.returns
returns c = reply-done _ c.if-w-ne0.false
