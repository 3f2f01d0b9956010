use Rattle.std.proofs.Common.{◌≡◌, refl, arith}
use Rattle.luma_rows.proofs.Plain.{puts_none, puts-more}
use Rattle.luma_rows.proofs.put.Goals as goal

pub loop-j-init : goal.loop-j-init
loop-j-init c = puts_none _ _ _

pub loop-j-preserved : goal.loop-j-preserved
loop-j-preserved c = puts-more c.loop-j.invariant (omega arith) refl

pub returns : goal.returns
returns c = let e : c.loop-j.j ≡ c.args.w = omega arith in rw e at c.loop-j.invariant
