use native.Mathlib.Omega.{arith}
use Rattle.luma_scenes.proofs.Loops.{tallied-first, tallied-more, tallied-all}
use Rattle.luma_scenes.proofs.count.Goals as goal

pub loop-b-init : goal.loop-b-init
loop-b-init c = (omega arith, omega arith, tallied-first c.args.luma.now c.args.n c.args.d)

pub overflow_add-scenes : goal.overflow_add-scenes
overflow_add-scenes c = omega (arith, c.next_start-b.ensures.more c.loop-b-test.true)

pub loop-b-smaller : goal.loop-b-smaller
loop-b-smaller c = omega (arith, c.next_start-b.ensures.more c.loop-b-test.true)

pub loop-b-preserved : goal.loop-b-preserved
loop-b-preserved c =
    let a = c.args in
    let l = c.loop-b in
    let m = c.next_start-b.ensures.more c.loop-b-test.true in (
      omega arith,
      omega arith,
      tallied-more a.luma.now a.n a.d l.scenes l.b c.next_start-b.result l.invariant.2
          c.loop-b-test.true c.next_start-b.ensures,
    )

pub returns : goal.returns
returns c =
    let a = c.args in let l = c.loop-b in
    tallied-all a.luma.now a.n a.d l.scenes l.b l.invariant.2 c.loop-b-test.false (omega arith)
