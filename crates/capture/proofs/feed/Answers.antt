-- `feed` meets its contract.
use Rattle.capture.proofs.Pieces.{feed-post}
use borrow.Author.Rules.{rules}
use Rattle.capture.proofs.feed.Goals as goal

pub returns : goal.returns
returns c = search (rules, feed-post)
