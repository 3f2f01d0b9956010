-- `sum_up` meets its contract.
use Rattle.capture.proofs.Sums.{sum_by}
use borrow.Author.Rules.{rules}
use Rattle.capture.proofs.sum_up.Goals as goal

pub returns : goal.returns
returns c = search (rules, sum_by)
