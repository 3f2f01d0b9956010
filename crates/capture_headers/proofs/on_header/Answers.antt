use Prim.{tt}
use native.Mathlib.Omega.{arith}
use mathlib.Core.Path.{refl, ap}
use Rattle.capture_steps.specs.declared.types.Walk.{Walk}
use Rattle.capture_steps.proofs.Front.{placed, header-on, front-bad-time, front-bad-size}
use Rattle.capture_steps.proofs.Ends.{settles-header}
use Rattle.capture_steps.proofs.Fits.{within-header, lt_of, le_of}
use Rattle.capture_steps.proofs.Pieces.{at-live}
use Rattle.capture_headers.proofs.on_header.Goals as goal

pub returns-then-walk-lt8 : goal.returns-then-walk-lt8
returns-then-walk-lt8 c =
    rw c.step.ensures (record {
      taken = refl;
      fits = λ piece. tt;
      goes = λ piece joined st. let k = c.requires in let t = c.args.part.now in
          let z = at-live k.going.clear k.going.file st in
          header-on z.0 z.1 _ _ t (placed z.1.room c.carry.ensures)
          (within-header k.header) k.going.limit _ _ _ (settles-header (omega arith)) refl refl
          refl refl refl k.header (λ h. absurd (omega arith)) (λ h. absurd (omega arith));
    })

pub returns-then-micro_of-gt999999 : goal.returns-then-micro_of-gt999999
returns-then-micro_of-gt999999 c =
    rw c.step-then-micro_of-gt999999.ensures (record {
      taken = refl;
      fits = λ piece. tt;
      goes = λ piece joined st. let k = c.requires in let t = c.args.part.now in
          let z = at-live k.going.clear k.going.file st in
          front-bad-time z.0 z.1 _ _ t (placed z.1.room c.carry.ensures)
          (within-header k.header) k.going.limit _ _ c.if-walk-lt8.false
          (lt_of 999999 c.micro_of.ensures.0
          c.if-micro_of-gt999999.true) (ap (λ (x : Walk). x.status) c.refused.ensures)
          (ap (λ (x : Walk). x.place) c.refused.ensures);
    })

pub returns-then-walk-lt12 : goal.returns-then-walk-lt12
returns-then-walk-lt12 c =
    rw c.step-then-walk-lt12.ensures (record {
      taken = refl;
      fits = λ piece. tt;
      goes = λ piece joined st. let k = c.requires in let t = c.args.part.now in
          let z = at-live k.going.clear k.going.file st in
          header-on z.0 z.1 _ _ t (placed z.1.room c.carry.ensures)
          (within-header k.header) k.going.limit _ _ _ (settles-header (omega arith)) refl refl
          refl refl refl k.header (λ h. le_of 999999 c.micro_of.ensures.0
          c.if-micro_of-gt999999.false) (λ h. absurd (omega arith));
    })

pub returns-then-size-gt65535 : goal.returns-then-size-gt65535
returns-then-size-gt65535 c =
    rw c.step-then-size-gt65535.ensures (record {
      taken = refl;
      fits = λ piece. tt;
      goes = λ piece joined st. let k = c.requires in let t = c.args.part.now in
          let z = at-live k.going.clear k.going.file st in
          front-bad-size z.0 z.1 _ _ t (placed z.1.room c.carry.ensures)
          (within-header k.header) k.going.limit _ _ c.if-walk-lt12.false
          (le_of 999999 c.micro_of.ensures.0 c.if-micro_of-gt999999.false)
          (lt_of 65535 c.stored_of-size.ensures.0 c.if-size-gt65535.true)
          (ap (λ (x : Walk). x.status) c.refused-then-size-gt65535.ensures)
          (ap (λ (x : Walk). x.place) c.refused-then-size-gt65535.ensures);
    })

pub returns : goal.returns
returns c =
    rw c.step-2.ensures (record {
      taken = refl;
      fits = λ piece. tt;
      goes = λ piece joined st. let k = c.requires in let t = c.args.part.now in
          let z = at-live k.going.clear k.going.file st in
          header-on z.0 z.1 _ _ t (placed z.1.room c.carry.ensures)
          (within-header k.header) k.going.limit _ _ _ c.settle.ensures refl refl refl
          refl refl k.header (λ h. le_of 999999 c.micro_of.ensures.0 c.if-micro_of-gt999999.false) (λ h. (
            le_of 65535 c.stored_of-size.ensures.0 c.if-size-gt65535.false,
            c.stored_of-size.ensures.0,
          ));
    })
