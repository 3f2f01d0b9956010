use Rattle.std.proofs.Common.{refl, arith}
use Rattle.luma_picture.proofs.score_of.Goals as goal

pub returns-then-i-lt4 : goal.returns-then-i-lt4
returns-then-i-lt4 c =
    record {
      early = λ h. refl;
      later = λ h e. absurd (omega arith);
      next = λ h. rw (
        ← c.slot_of-b.ensures.0,
        ← c.slot_of-y.ensures.0,
        ← c.slot_of-z.ensures.0,
      ) c.least_of_two-next.ensures;
      small = λ k. omega (arith, c.fits-bins k);
    }

pub returns : goal.returns
returns c =
    record {
      early = λ h. absurd (omega arith);
      later = λ h e. rw (
        ← c.slot_of-a.ensures.0,
        ← c.slot_of-b.ensures.0,
        ← c.slot_of-x.ensures.0,
        ← c.slot_of-y.ensures.0,
        ← c.slot_of-z.ensures.0,
      ) (c.least_of_six-score.ensures _ (rw (
        c.slot_of-a.ensures.0,
        c.slot_of-x.ensures.0,
        c.slot_of-y.ensures.0,
      ) e) c.least_of_two-next.ensures);
      next = λ h. rw (
        ← c.slot_of-b.ensures.0,
        ← c.slot_of-y.ensures.0,
        ← c.slot_of-z.ensures.0,
      ) c.least_of_two-next.ensures;
      small = λ k. omega (arith, c.fits-bins k);
    }
