-- `scene_marks` meets its contract: each mark is asked, and the first that fails is answered. Assumes nothing.
use Rattle.record_verify.specs.Marks.{scene_checks}
use Rattle.record_verify.proofs.Answers.{first-fails, second-fails, third-fails, fourth-says}
use Rattle.record_verify.proofs.scene_marks.Goals as goal

pub returns-in_err-repeat_marks : goal.returns-in_err-repeat_marks
unfolding scene_checks
returns-in_err-repeat_marks c =
    first-fails _ _ _ _ c.repeat_marks.ensures _ c.in_err-repeat_marks.was c.from_residual.ensures.1

pub returns-in_err-sum_marks : goal.returns-in_err-sum_marks
unfolding scene_checks
returns-in_err-sum_marks c =
    second-fails _ _ _ _ c.repeat_marks.ensures c.in_ok-repeat_marks.was c.sum_marks.ensures _ c.in_err-sum_marks.was
    c.from_residual-in_err-sum_marks.ensures.1

pub returns-in_err-start_marks : goal.returns-in_err-start_marks
unfolding scene_checks
returns-in_err-start_marks c =
    third-fails _ _ _ _ c.repeat_marks.ensures c.in_ok-repeat_marks.was c.sum_marks.ensures c.in_ok-sum_marks.was
    c.start_marks.ensures _ c.in_err-start_marks.was c.from_residual-in_err-start_marks.ensures.1

pub returns : goal.returns
unfolding scene_checks
returns c =
    fourth-says _ _ _ _ c.repeat_marks.ensures c.in_ok-repeat_marks.was c.sum_marks.ensures c.in_ok-sum_marks.was
    c.start_marks.ensures c.in_ok-start_marks.was c.length_marks.ensures
