use native.Mathlib.Omega.{arith}
use mathlib.Core.Path.{refl}
use Rattle.record_text.proofs.Texts.{no_fields, fields-step}
use Rattle.record_text.proofs.put_fields.Goals as goal

pub loop-n-init : goal.loop-n-init
loop-n-init c =
    let z = no_fields c.args.buffer.now c.args.numbers.now c.args.at in
    (z.0, omega arith, refl, z.1)

pub loop-n-preserved : goal.loop-n-preserved
loop-n-preserved c =
    let l = c.loop-n in
    let p = c.put_field-end in
    let z = fields-step c.args.numbers.now c.args.buffer.now l.buffer p.new.buffer
    c.args.at l.n-index l.end p.result c.loop-n-test.true (omega arith)
    l.invariant.0 l.invariant.3 p.ensures.0 p.ensures.2 in
    (z.0, omega arith, omega arith, z.1)
