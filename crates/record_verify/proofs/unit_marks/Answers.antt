-- `unit_marks` meets its contract: each mark is asked, and the first that fails is answered. Assumes nothing.
use Rattle.record_verify.specs.Marks.{unit_checks}
use Rattle.record_verify.proofs.Answers.{first_row, this-fails, this-holds}
use Rattle.record_verify.proofs.unit_marks.Goals as goal

pub returns-in_err-at_most : goal.returns-in_err-at_most
unfolding unit_checks
returns-in_err-at_most c =
    rw (← first_row c.args.row, ← c.saturating_sub-gaps.ensures)
    (this-fails _ _ c.at_most.ensures _ c.in_err-at_most.was _ c.from_residual.ensures.1)

pub returns : goal.returns
unfolding unit_checks
returns c =
    rw (← first_row c.args.row, ← c.saturating_sub-gaps.ensures)
    (this-holds _ _ c.at_most.ensures c.in_ok-at_most.was c.at_most-2.ensures)
