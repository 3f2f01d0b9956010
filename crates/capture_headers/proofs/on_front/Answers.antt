use Prim.{tt}
use mathlib.Core.Path.{refl}
use Rattle.capture_steps.proofs.Front.{placed, front-plain, front-last}
use Rattle.capture_steps.proofs.Pieces.{at-live}
use Rattle.capture_headers.proofs.on_front.Goals as goal
use Rattle.capture_headers.proofs.on_front.Goals.{then-walk-eq58, else-walk-eq58}

pub returns : goal.returns
returns c =
    rw c.step.ensures (record {
      taken = refl;
      fits = λ piece. tt;
      goes = λ piece joined st. let k = c.requires in let t = c.args.part.now in
          let z = at-live k.going.clear k.going.file st in
          elim c.if-walk-eq58.branch [
            | then-walk-eq58 w ↦
                front-last z.0 z.1 _ _ t (placed z.1.room c.carry.ensures) k.front
                k.going.limit _ _ _ (rw w.walk-is at c.settle.ensures) refl refl refl refl refl k.body refl
                w.if-walk-eq58.true w.count_of.ensures.0 refl
            | else-walk-eq58 w ↦
                front-plain z.0 z.1 _ _ t (placed z.1.room c.carry.ensures) k.front
                k.going.limit _ _ _ (rw w.walk-is at c.settle.ensures) refl refl refl refl refl k.body refl
                w.if-walk-eq58.false
          ];
    })
