use Rattle.std.proofs.Common.{ap, ◌∙◌, ◌-◌, take, drop, refl}
use Rattle.std.specs.Float.{binary64}
use Rattle.std.specs.Float.Ieee.{add}
use borrow.Rule.Slice.PartMut.{put_mid}
use Rattle.loss_spread.proofs.Steps.{mapped_more, mapped_all, added_part}
use Rattle.loss_spread.proofs.add.Goals as goal

pub loop-y-init : goal.loop-y-init
loop-y-init c = refl

pub loop-y-preserved : goal.loop-y-preserved
loop-y-preserved c =
    let a = c.args in
    let l = c.loop-y in
    let ys = take (a.k - a.i) (drop a.i a.list.now) in
    rw l.invariant (mapped_more (λ y. add binary64 y a.x) ys l.y-index c.loop-y-test.true)

pub returns : goal.returns
returns c =
    let a = c.args in
    let l = c.loop-y in
    let ys = take (a.k - a.i) (drop a.i a.list.now) in
    ap (put_mid a.i (a.k - a.i) a.list.now)
    (l.invariant ∙ mapped_all (λ y. add binary64 y a.x) ys l.y-index c.loop-y-test.false)
    ∙ added_part a.i a.k a.x a.list.now c.requires.0
