use Rattle.luma.proofs.Posts.{reply-stopped, reply-done}
use Rattle.luma.proofs.reply.Goals as goal

pub returns-then-s-ne0 : goal.returns-then-s-ne0
returns-then-s-ne0 c = reply-stopped c.args.s c.args.n c.if-s-ne0.true

pub returns : goal.returns
returns c = reply-done c.args.s c.args.n c.if-s-ne0.false
