use native.Mathlib.Omega.{arith}
use lib.Seq.{take_all}
use Rattle.record_text.proofs.Texts.{byte_more, none_yet}
use Rattle.record_text.proofs.put_text.Goals as goal

pub loop-j-init : goal.loop-j-init
loop-j-init c = none_yet c.args.buffer.now c.args.text.now c.args.at

pub loop-j-preserved : goal.loop-j-preserved
loop-j-preserved c =
    rw c.loop-j.invariant
    (byte_more c.args.buffer.now c.args.text.now c.args.at c.loop-j.j c.requires c.loop-j-test.true)

pub returns : goal.returns
returns c = (omega arith, rw (take_all c.loop-j.j c.args.text.now (omega arith)) at c.loop-j.invariant)
