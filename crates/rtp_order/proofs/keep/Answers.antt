use Rattle.std.proofs.Common.{arith, length-set}
use Rattle.rtp_order.proofs.Rows.{new-passed, new-kept, new-end}
use Rattle.rtp_order.proofs.keep.Goals as goal
use Rattle.rtp_order.proofs.keep.Goals.{then-row-place, else-row-place}

pub loop-i-preserved : goal.loop-i-preserved
loop-i-preserved c =
    let l = c.loop-i in
    elim c.if-row-place.branch [
      | then-row-place w ↦
          rw (w.rows-is, w.place-is, w.kept-is) (
            omega arith,
            simp length-set l.invariant.1,
            new-kept l.rows l.i l.place l.kept (omega arith) l.invariant.0 _ l.invariant.2 w.if-row-place.true,
          )
      | else-row-place w ↦
          rw (w.rows-is, w.place-is, w.kept-is) (
            omega arith,
            l.invariant.1,
            new-passed l.rows l.i l.place l.kept (omega arith) l.invariant.0 _ l.invariant.2 w.if-row-place.false,
          )
    ]

pub returns : goal.returns
returns c =
    let l = c.loop-i in
    record { few = omega arith; front = new-end l.rows _ l.i l.place l.kept (omega arith) l.invariant.2 }
