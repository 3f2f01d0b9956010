-- `at_most` meets its contract: it asks its comparison. Assumes nothing.
use Rattle.record_verify.specs.Marks.{first_failing}
use Rattle.record_verify.proofs.at_most.Goals as goal

pub returns : goal.returns
unfolding first_failing
returns c = c.asked.ensures
