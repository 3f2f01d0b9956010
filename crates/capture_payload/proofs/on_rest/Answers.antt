use Prim.{tt}
use Rattle.std.proofs.Common.{refl, arith}
use Rattle.capture_steps.proofs.Pieces.{at-live}
use Rattle.capture_steps.proofs.Cells.{known, got-part, got-fed, gathered, cell-on, cell-whole, at-is}
use Rattle.capture_payload.proofs.on_rest.Goals as goal

pub returns-then-walk-lt188 : goal.returns-then-walk-lt188
returns-then-walk-lt188 c =
    record {
      taken = refl;
      fits = λ piece. tt;
      goes = λ piece joined st. let k = c.requires in let t = c.args.part.now in
          let z = at-live k.going.clear k.going.file st in let m = z.1.many in let v = z.1.under (omega arith) in
          let kn = known z.0 z.1 k.front v in let gp = got-part z.0 z.1 k.front v k.cells in
          let bo = k.cell gp in
          cell-on z.0 z.1 k.front v _ _ t (gathered z.1.room c.collect.ensures)
          k.going.limit k.cells (omega arith) k.shown _ _ (omega arith) refl refl
          (at-is kn.1 kn.2 (omega arith) refl refl) refl
          (omega arith) refl refl refl;
    }

pub returns : goal.returns
returns c =
    record {
      taken = refl;
      fits = λ piece. c.cell_at-cell.ensures.1;
      goes = λ piece joined st. let k = c.requires in let t = c.args.part.now in
          let z = at-live k.going.clear k.going.file st in let m = z.1.many in let v = z.1.under (omega arith) in
          let kn = known z.0 z.1 k.front v in let gp = got-part z.0 z.1 k.front v k.cells in
          let bo = k.cell gp in
          cell-whole z.0 z.1 k.front v _ _ t (gathered z.1.room c.collect.ensures) k.going.limit k.cells
          (omega arith) k.shown (omega arith) _ _ _ _ _ _ c.settle.ensures c.cell_at-cell.ensures.0
          c.time_of-time.ensures (omega (arith, got-fed z.0 z.1 k.front v k.cells)) refl refl
          (at-is kn.1 kn.2 (omega arith) refl refl) refl refl refl refl refl;
    }
