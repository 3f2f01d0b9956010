-- `feed` meets its contract, from what its parts promise.
use Rattle.survey.proofs.Steps.{feed-post}
use borrow.Author.Rules.{rules}
use Rattle.survey.proofs.feed.Goals as goal

pub returns : goal.returns
returns c = search (rules, feed-post)
