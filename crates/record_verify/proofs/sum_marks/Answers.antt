-- `sum_marks` meets its contract: each mark is asked, and the first that fails is answered. Assumes nothing.
use native.Mathlib.Omega.{arith}
use Rattle.figures.proofs.Products.{product}
use Rattle.record_verify.specs.Marks.{sum_checks}
use Rattle.record_verify.proofs.Answers.{first_row, this-fails, this-holds}
use Rattle.record_verify.proofs.sum_marks.Goals as goal

pub overflow_mul-peak : goal.overflow_mul-peak
overflow_mul-peak c = product (omega arith) (omega arith)

pub returns-in_err-at_most : goal.returns-in_err-at_most
unfolding sum_checks
returns-in_err-at_most c =
    rw (← c.saturating_sub-unrepeated.ensures, ← first_row c.args.row, ← c.saturating_sub-changing.ensures)
    (this-fails _ _ c.at_most.ensures _ c.in_err-at_most.was _ c.from_residual.ensures.1)

pub returns-in_err-at_most-2 : goal.returns-in_err-at_most-2
unfolding sum_checks
returns-in_err-at_most-2 c =
    rw (← c.saturating_sub-unrepeated.ensures, ← first_row c.args.row, ← c.saturating_sub-changing.ensures)
    (this-holds _ _ c.at_most.ensures c.in_ok-at_most.was
    (this-fails _ _ c.at_most-2.ensures _ c.in_err-at_most-2.was _ c.from_residual-in_err-at_most-2.ensures.1))

pub returns-in_err-at_most-3 : goal.returns-in_err-at_most-3
unfolding sum_checks
returns-in_err-at_most-3 c =
    rw (← c.saturating_sub-unrepeated.ensures, ← first_row c.args.row, ← c.saturating_sub-changing.ensures)
    (this-holds _ _ c.at_most.ensures c.in_ok-at_most.was
    (this-holds _ _ c.at_most-2.ensures c.in_ok-at_most-2.was
    (this-fails _ _ c.at_most-3.ensures _ c.in_err-at_most-3.was _ c.from_residual-in_err-at_most-3.ensures.1)))

pub returns : goal.returns
unfolding sum_checks
returns c =
    rw (← c.saturating_sub-unrepeated.ensures, ← first_row c.args.row, ← c.saturating_sub-changing.ensures)
    (this-holds _ _ c.at_most.ensures c.in_ok-at_most.was
    (this-holds _ _ c.at_most-2.ensures c.in_ok-at_most-2.was
    (this-holds _ _ c.at_most-3.ensures c.in_ok-at_most-3.was c.at_most-4.ensures)))
