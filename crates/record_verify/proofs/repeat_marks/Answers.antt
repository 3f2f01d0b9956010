-- `repeat_marks` meets its contract: each mark is asked, and the first that fails is answered. Assumes nothing.
use native.Mathlib.Omega.{arith}
use Rattle.figures.proofs.Products.{product}
use Rattle.record_verify.specs.Marks.{repeat_checks}
use Rattle.record_verify.proofs.Answers.{this-fails, this-holds}
use Rattle.record_verify.proofs.repeat_marks.Goals as goal

pub overflow_mul-runs : goal.overflow_mul-runs
overflow_mul-runs c = product (omega arith) (omega arith)

pub returns-in_err-at_most : goal.returns-in_err-at_most
unfolding repeat_checks
returns-in_err-at_most c =
    rw (← c.saturating_sub.ensures, ← c.saturating_sub-2.ensures)
    (this-fails _ _ c.at_most.ensures _ c.in_err-at_most.was _ c.from_residual.ensures.1)

pub returns-in_err-at_most-2 : goal.returns-in_err-at_most-2
unfolding repeat_checks
returns-in_err-at_most-2 c =
    rw (← c.saturating_sub.ensures, ← c.saturating_sub-2.ensures)
    (this-holds _ _ c.at_most.ensures c.in_ok-at_most.was
    (this-fails _ _ c.at_most-2.ensures _ c.in_err-at_most-2.was _ c.from_residual-in_err-at_most-2.ensures.1))

pub returns : goal.returns
unfolding repeat_checks
returns c =
    rw (← c.saturating_sub.ensures, ← c.saturating_sub-2.ensures)
    (this-holds _ _ c.at_most.ensures c.in_ok-at_most.was
    (this-holds _ _ c.at_most-2.ensures c.in_ok-at_most-2.was c.at_most-3.ensures))
