-- `start_marks` meets its contract: the first scene starts at no cut. Assumes nothing.
use native.Mathlib.Omega.{arith}
use borrow.Author.Tests.{lt-ltb, le-ltb}
use Rattle.record_verify.specs.Marks.{start_checks}
use Rattle.record_verify.proofs.Answers.{none-fails, this-fails, this-holds}
use Rattle.record_verify.proofs.start_marks.Goals as goal

pub returns-then-row-eq0 : goal.returns-then-row-eq0
unfolding start_checks
returns-then-row-eq0 c = rw (le-ltb 0 c.args.row (omega arith)) none-fails

pub returns-in_err-at_least : goal.returns-in_err-at_least
unfolding start_checks
returns-in_err-at_least c =
    rw (lt-ltb 0 c.args.row (omega (arith, c.if-row-eq0.false)))
    (this-fails _ _ c.at_least.ensures _ c.in_err-at_least.was _ c.from_residual.ensures.1)

pub returns : goal.returns
unfolding start_checks
returns c =
    rw (lt-ltb 0 c.args.row (omega (arith, c.if-row-eq0.false)), ← c.saturating_sub-last_start.ensures)
    (this-holds _ _ c.at_least.ensures c.in_ok-at_least.was c.at_most.ensures)
