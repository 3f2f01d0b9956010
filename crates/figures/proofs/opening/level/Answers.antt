use Rattle.std.proofs.Common.{◌≡◌, ◌-◌, refl, sym, ◌∙◌, arith}
use Rattle.rules.specs.Opening.{level_up_to}
use Rattle.figures.proofs.SizeLaws.{level-here, level-below}
use Rattle.figures.proofs.opening.level.Goals as goal

pub loop-k-init : goal.loop-k-init
loop-k-init c = (omega arith, refl)

pub returns-then-height-k-ge30 : goal.returns-then-height-k-ge30
returns-then-height-k-ge30 c =
    sym (level-here (c.loop-k.k - 1) c.args.height (omega arith) c.if-height-k-ge30.true) ∙ c.loop-k.invariant.1

pub loop-k-preserved : goal.loop-k-preserved
loop-k-preserved c = (
  omega arith,
  sym (level-below (c.loop-k.k - 1) c.args.height (omega arith) c.if-height-k-ge30.false) ∙ c.loop-k.invariant.1,
)

pub returns : goal.returns
unfolding level_up_to
returns c = let one : c.loop-k.k - 1 ≡ 0 = omega arith in rw one at c.loop-k.invariant.1
