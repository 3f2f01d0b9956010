use native.Mathlib.Omega.{arith}
use Rattle.program_text.proofs.Hex.{byte_more, none_yet}
use Rattle.program_text.proofs.put_hex.Goals as goal

pub loop-i-init : goal.loop-i-init
loop-i-init c = none_yet c.args.bytes.now c.args.text.now

pub loop-i-preserved : goal.loop-i-preserved
loop-i-preserved c =
    let turn = c.loop-i in
    byte_more c.args.bytes.now c.args.text.now turn.text turn.i (omega arith)
    c.requires turn.invariant _ _ c.digit.ensures c.digit-in-loop-i.ensures
