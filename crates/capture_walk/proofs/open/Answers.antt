use Rattle.capture_walk.proofs.Standing.{opens}
use borrow.Author.Rules.{rules}
use Rattle.capture_walk.proofs.open.Goals as goal

pub returns : goal.returns
returns c = search (rules, opens)
