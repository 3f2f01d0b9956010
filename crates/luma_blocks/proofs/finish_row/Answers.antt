use mathlib.Core.Path.{◌≡◌}
use native.Mathlib.Omega.{arith}
use native.Mathlib.Nat.{mul-le-mul, mul-pos}
use Rattle.luma_blocks.proofs.Pixels.{finished-none, finished-more, row_done}
use Rattle.luma_blocks.proofs.finish_row.Goals as goal

pub overflow_mul-area : goal.overflow_mul-area
overflow_mul-area c = omega (arith, mul-le-mul c.requires.few c.requires.few)

pub overflow_cast-area : goal.overflow_cast-area
overflow_cast-area c = omega (arith, mul-le-mul c.requires.few c.requires.few)

pub loop-c-init : goal.loop-c-init
loop-c-init c = finished-none _ _ _ _

pub pixel_of-requires : goal.pixel_of-requires
pixel_of-requires c = mul-pos c.requires.some c.requires.some

pub loop-c-preserved : goal.loop-c-preserved
loop-c-preserved c =
    finished-more c.loop-c.invariant (omega arith) (omega arith) c.pixel_of.ensures

pub returns : goal.returns
returns c =
    let l = c.loop-c in let p = c.requires in
    let e : l.c ≡ c.args.w = omega arith in
    row_done p.some p.few (rw e at l.invariant)
