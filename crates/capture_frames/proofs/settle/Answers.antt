use Rattle.std.proofs.Common.{refl, arith}
use Rattle.capture_steps.proofs.Ends.{in-header, in_body, end-carries, end-skipped}
use Rattle.capture_frames.proofs.settle.Goals as goal
use Rattle.capture_frames.proofs.settle.Goals.{then-s-lt16-via-then-s-lt16, then-s-lt16-via-else-s-lt16+then-s}

pub returns-then-s-lt16 : goal.returns-then-s-lt16
returns-then-s-lt16 c joined chunk v =
    elim c.then-s-lt16.branch [
      | then-s-lt16-via-then-s-lt16 w ↦ in-header v w.if-s-lt16.true
      | then-s-lt16-via-else-s-lt16+then-s w ↦ in_body v w.if-s-lt16.false (omega (arith, w.if-s.true))
    ]

pub returns-then-carries_of : goal.returns-then-carries_of
returns-then-carries_of c joined chunk v =
    end-carries v c.if-s-lt16.false (omega arith) _ c.carries_of.ensures c.if-carries_of.true refl refl refl refl refl

pub returns : goal.returns
returns c joined chunk v =
    end-skipped v c.if-s-lt16.false (omega arith) _ c.carries_of.ensures c.if-carries_of.false
    refl refl refl refl refl
