use Rattle.std.proofs.Common.{arith}
use Rattle.capture_counts.proofs.Laws.{going-none, going_more, going-stops}
use Rattle.capture_counts.proofs.add_run.Goals as goal

pub loop-k-init : goal.loop-k-init
loop-k-init c = going-none _ _ _ _ _

pub returns-then-t-ne0 : goal.returns-then-t-ne0
returns-then-t-ne0 c =
    let l = c.loop-k in
    going-stops _ _ _ _ _ l.invariant (omega arith) c.cell.ensures.0 c.take_cell-t.ensures _
    (omega arith) c.if-t-ne0.true

pub loop-k-preserved : goal.loop-k-preserved
loop-k-preserved c =
    let l = c.loop-k in
    going_more _ _ _ _ _ l.invariant (omega arith) c.cell.ensures.0 c.take_cell-t.ensures c.if-t-ne0.false
