use Rattle.std.proofs.Common.{arith}
use Rattle.luma_tiles.proofs.Laws.{rest-none, rest-more}
use Rattle.luma_tiles.proofs.count_rest.Goals as goal

pub loop-v-init : goal.loop-v-init
loop-v-init c = rest-none c.args.base c.args.t _

pub loop-v-preserved : goal.loop-v-preserved
loop-v-preserved c =
    let l = c.loop-v in
    rest-more c.args.base c.args.t l.v-index c.args.pixels.now l.invariant (omega arith) c.count.ensures
