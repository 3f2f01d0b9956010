use borrow.Author.Tests.{lt-ltb}
use Rattle.capture_walk.proofs.Standing.{inside-head, inside-live}
use Rattle.capture_walk.proofs.inside.Goals as goal

pub returns-then-s-lt24 : goal.returns-then-s-lt24
returns-then-s-lt24 c kept joined h st =
    rw (lt-ltb c.args.s.fed 24 c.if-s-lt24.true) (inside-head c.if-s-lt24.true h st)

pub returns-else-s-lt24 : goal.returns-else-s-lt24
returns-else-s-lt24 c kept joined h st = inside-live c.if-s-lt24.false h st
