-- `reply` meets its contract: the refusal that stands, or the length.
use Rattle.capture.proofs.Pieces.{reply-stopped, reply-done}
use borrow.Author.Rules.{rules}
use Rattle.capture.proofs.reply.Goals as goal

pub returns-then-t-ne0 : goal.returns-then-t-ne0
returns-then-t-ne0 c = search (rules, reply-stopped)

pub returns : goal.returns
returns c = search (rules, reply-done)
