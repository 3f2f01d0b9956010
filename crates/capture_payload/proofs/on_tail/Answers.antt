use Prim.{tt}
use Rattle.std.proofs.Common.{refl, arith}
use Rattle.rules.specs.Capture.{unfinished}
use Rattle.capture_steps.proofs.Fits.{size_is}
use Rattle.capture_steps.proofs.Pieces.{at-live}
use Rattle.capture_steps.proofs.Cells.{known, tail-stood, at-is}
use Rattle.capture_payload.proofs.on_tail.Goals as goal

pub returns : goal.returns
returns c =
    record {
      taken = refl;
      fits = λ piece. tt;
      goes = λ piece joined st. let k = c.requires in
          let t = c.args.part.now in
          let z = at-live k.going.clear k.going.file st in let m = z.1.many in let v = z.1.under (omega arith) in
          let kn = known z.0 z.1 k.front v in let bo = k.frame kn.1 kn.2 in
          tail-stood z.0 z.1 k.front v t _ k.going.limit (omega (arith, size_is (unfinished joined))) k.done _ _
          _ c.settle.ensures refl refl (at-is kn.1 kn.2 (omega arith) refl refl) refl refl refl refl;
    }
