use borrow.Author.Tests.{le-leb, lt-leb}
use Rattle.gap_runs.proofs.entry_at.Goals as goal

pub returns-then-lost-l : goal.returns-then-lost-l
returns-then-lost-l c = simp (le-leb _ _ c.if-lost-l.true)

pub returns-else-lost-l : goal.returns-else-lost-l
returns-else-lost-l c = simp (lt-leb _ _ c.if-lost-l.false)
