use Rattle.std.proofs.Common.{◌≡◌, take, take_all, arith}
use Rattle.luma_sums.proofs.Runs.{inside, blocks-none, blocks_more}
use Rattle.luma_sums.proofs.whole.Goals as goal

pub loop-j-init : goal.loop-j-init
loop-j-init g c = let a = c.args in blocks-none a.n a.c a.s.now a.at a.sums.now

pub loop-j-preserved : goal.loop-j-preserved
loop-j-preserved g c =
    let a = c.args in
    let fits = inside a.n c.loop-j-test.true in
    blocks_more a.n a.c c.loop-j.j _ a.s.now a.at c.loop-j.invariant
    (λ r h. omega (arith, c.requires.inside r h))
    (let e : take c.loop-place.place-index a.at ≡ a.at = take_all _ a.at (omega arith) in
    rw e at c.loop-place.invariant)

pub returns : goal.returns
returns g c =
    let e : c.loop-j.j ≡ c.args.k = omega arith in
    rw e at c.loop-j.invariant
