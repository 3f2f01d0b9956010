use Rattle.std.proofs.Common.{◌-◌, length, refl, arith}
use Prim.{tt}
use Rattle.capture_steps.proofs.Pieces.{at-live, part-rest}
use Rattle.capture_steps.proofs.Whole.{frame-skipped, frame-counted, frame-fits}
use Rattle.capture_frames.proofs.on_frame.Goals as goal

pub returns-then-many-eq0 : goal.returns-then-many-eq0
returns-then-many-eq0 c κ =
    rw c.step.ensures (record {
      taken = refl;
      fits = tt;
      goes = λ joined st. let k = c.requires in let a = c.args in
          let z = at-live k.clear k.ahead.behind st in
          let rest = part-rest a.piece.now a.i (length a.piece.now - a.i) (omega arith) in
          frame-skipped z.0 z.1 _ _ k.ahead _ _ _ (rw rest at c.count_of-many.ensures.0) c.if-many-eq0.true
          refl refl refl refl refl;
    })

pub returns : goal.returns
returns c κ =
    let a = c.args in
    let rest = part-rest a.piece.now a.i (length a.piece.now - a.i) (omega arith) in
    let many = rw rest at c.count_of-many.ensures.0 in
    rw c.step-2.ensures (record {
      taken = refl;
      fits = frame-fits a.i a.piece.now c.requires.ahead refl c.requires.place many c.if-many-eq0.false;
      goes = λ joined st. let k = c.requires in
          let z = at-live k.clear k.ahead.behind st in
          frame-counted z.0 z.1 _ _ k.ahead _ _ a.i _ refl many c.if-many-eq0.false
          (rw rest at c.time_of.ensures) refl refl refl refl refl;
    })
