-- `header_marks` meets its contract: each mark is asked, and the first that fails is answered. Assumes nothing.
use Rattle.record_verify.specs.Marks.{header_checks}
use Rattle.record_verify.proofs.Answers.{this-fails, this-holds}
use Rattle.record_verify.proofs.header_marks.Goals as goal

pub returns-in_err-at_most : goal.returns-in_err-at_most
unfolding header_checks
returns-in_err-at_most c =
    rw (← c.saturating_sub-carrying.ensures, ← c.most_scenes-most.ensures)
    (this-fails _ _ c.at_most.ensures _ c.in_err-at_most.was _ c.from_residual.ensures.1)

pub returns-in_err-at_most-2 : goal.returns-in_err-at_most-2
unfolding header_checks
returns-in_err-at_most-2 c =
    rw (← c.saturating_sub-carrying.ensures, ← c.most_scenes-most.ensures)
    (this-holds _ _ c.at_most.ensures c.in_ok-at_most.was
    (this-fails _ _ c.at_most-2.ensures _ c.in_err-at_most-2.was _ c.from_residual-in_err-at_most-2.ensures.1))

pub returns : goal.returns
unfolding header_checks
returns c =
    rw (← c.saturating_sub-carrying.ensures, ← c.most_scenes-most.ensures)
    (this-holds _ _ c.at_most.ensures c.in_ok-at_most.was
    (this-holds _ _ c.at_most-2.ensures c.in_ok-at_most-2.was c.at_most-3.ensures))
