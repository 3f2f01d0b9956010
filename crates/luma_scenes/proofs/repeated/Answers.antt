use native.Mathlib.Omega.{arith}
use Rattle.luma_scenes.proofs.Loops.{counted-more, counted-all, bit-small}
use Rattle.luma_scenes.proofs.repeated.Goals as goal

pub loop-k-init : goal.loop-k-init
loop-k-init c = (omega arith, λ n rs h g e. (g, omega arith))

pub overflow_add-found : goal.overflow_add-found
overflow_add-found c = omega (arith, bit-small c.args.luma.now c.loop-k.k)

pub loop-k-preserved : goal.loop-k-preserved
loop-k-preserved c =
    let l = c.loop-k in
    let s = bit-small c.args.luma.now l.k in (
      omega arith,
      counted-more c.args.luma.now c.args.i c.args.j l.found l.k c.repeat_bit-found.result
          l.invariant.1 c.loop-k-test.true c.repeat_bit-found.ensures,
    )

pub returns : goal.returns
returns c =
    let l = c.loop-k in
    record {
      most = omega arith;
      repeated = counted-all c.args.luma.now c.args.i c.args.j l.found l.k l.invariant.1
          c.loop-k-test.false;
    }
