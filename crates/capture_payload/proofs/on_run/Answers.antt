use Rattle.std.proofs.Common.{◌≡◌, ◌*◌, length, take, drop, refl, arith}
use Rattle.capture_steps.proofs.Pieces.{at-live, many-taken}
use Rattle.capture_steps.proofs.Cells.{known, run-stood, run_at}
use Rattle.capture_payload.proofs.on_run.Goals as goal

pub returns : goal.returns
returns c =
    record {
      taken = refl;
      fits = (c.requires.there, c.requires.going.limit);
      goes = λ joined st. let k = c.requires in let a = c.args in
          let t = take (188 * a.m) (drop a.i a.piece.now) in
          let e : length t ≡ 188 * a.m = many-taken a.piece.now a.i (188 * a.m) k.there in
          let z = at-live k.going.clear k.going.file st in let m = z.1.many in let v = z.1.under (omega arith) in
          let kn = known z.0 z.1 k.front v in
          run-stood z.0 z.1 k.front v t _ a.m (rw e k.going.limit) k.next k.some k.most e _ _ _ _
          c.settle.ensures refl k.there c.time_of-time.ensures refl (rw e refl)
          (rw e (run_at (188 * a.m) kn.1 kn.2 (omega arith)
          refl)) refl refl refl refl refl;
    }
