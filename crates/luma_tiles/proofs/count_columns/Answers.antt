use Rattle.std.proofs.Common.{arith}
use Rattle.luma_tiles.proofs.Laws.{three-none, three-more}
use Rattle.luma_tiles.proofs.count_columns.Goals as goal

pub loop-i-init : goal.loop-i-init
loop-i-init c = three-none c.args.base c.args.t _

pub loop-i-preserved : goal.loop-i-preserved
loop-i-preserved c =
    let l = c.loop-i in
    let a = c.args in
    three-more a.base a.t l.i a.first.now a.second.now a.third.now l.invariant (omega arith) (omega arith)
    (omega arith)
    c.count.ensures c.count-in-loop-i.ensures c.count-in-loop-i-2.ensures
