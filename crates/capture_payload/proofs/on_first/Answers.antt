use Prim.{tt}
use Rattle.std.proofs.Common.{refl, ◌∙◌, arith}
use Rattle.capture_cells.specs.Cells.{cell_in}
use Rattle.capture_steps.proofs.Pieces.{at-live}
use Rattle.capture_steps.proofs.Cells.{known, gathered, cell-early, cell-shown, at-is}
use Rattle.capture_payload.proofs.on_first.Goals as goal

pub returns-then-walk-ge4 : goal.returns-then-walk-ge4
returns-then-walk-ge4 c =
    record {
      taken = refl;
      fits = λ piece. (c.head_at.ensures.1, rw c.head_at.ensures.0 (unfold cell_in in omega arith));
      goes = λ piece joined st. let k = c.requires in let t = c.args.part.now in
          let z = at-live k.going.clear k.going.file st in let m = z.1.many in let v = z.1.under (omega arith) in
          let kn = known z.0 z.1 k.front v in
          cell-shown z.0 z.1 k.front v _ _ t (gathered z.1.room c.collect.ensures)
          k.going.limit k.cells (omega arith) k.early k.short _ _ _ c.if-walk-ge4.true
          (c.head_at.ensures.0 ∙ rw c.time_of-time.ensures) refl refl
          (at-is kn.1 kn.2 (omega arith) refl refl) refl refl
          refl refl refl;
    }

pub returns-else-walk-ge4 : goal.returns-else-walk-ge4
returns-else-walk-ge4 c =
    record {
      taken = refl;
      fits = λ piece. tt;
      goes = λ piece joined st. let k = c.requires in let t = c.args.part.now in
          let z = at-live k.going.clear k.going.file st in let m = z.1.many in let v = z.1.under (omega arith) in
          let kn = known z.0 z.1 k.front v in
          let at = at-is kn.1 kn.2 (omega arith) refl refl in
          cell-early z.0 z.1 k.front v _ _ t (gathered z.1.room c.collect.ensures) k.going.limit k.cells
          (omega arith) k.early k.short _ _ c.if-walk-ge4.false refl refl at refl refl refl refl refl;
    }
