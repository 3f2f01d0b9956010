use Rattle.std.proofs.Common.{arith}
use Rattle.read_ahead.proofs.fetch.Goals as goal

pub overflow_add-sum : goal.overflow_add-sum
overflow_add-sum c = omega (arith, c.type_inv.f c.loop-at.at)

pub loop-at-preserved : goal.loop-at-preserved
loop-at-preserved c =
    let b = c.type_inv.f c.loop-at.at in
    (omega arith, omega arith, omega (arith, b))
