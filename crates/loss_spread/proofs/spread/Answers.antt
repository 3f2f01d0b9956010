use Rattle.std.proofs.Common.{◌≡◌, ◌+◌, ◌≤◌, ◌<◌, length, drop, sym, ap, ◌∙◌, arith}
use Rattle.rules.specs.EffectiveLoss.{both, unit_losses}
use Rattle.loss_spread.proofs.Steps.{taken, stopped, passed, ended, both-eq}
use Rattle.loss_spread.proofs.Steps.{unit-spread, unit-none, units-done}
use Rattle.loss_spread.proofs.spread.Goals as goal
use Rattle.loss_spread.proofs.spread.Goals.{then-probability+else-rest, else-probability}
use Rattle.loss_spread.proofs.spread.Goals.{then-loss-gt0+else-loop-k-test}
use Rattle.loss_spread.proofs.spread.Goals.{then-loss-gt0+then-loop-k-test+then-probability+then-rest, else-loss-gt0}

pub loop-k-preserved : goal.loop-k-preserved
loop-k-preserved c =
    let at = c.loop-k in
    let unit = c.loop-i in
    let ps = c.args.probabilities.now in
    let n = length c.args.losses.now in
    let long : length ps ≡ n = omega arith in
    let inside : at.k ≤ n = omega arith in
    let p = c.probability_at-probability.ensures in
    elim c.if-probability.branch [
      | then-probability+else-rest w ↦ (
        omega (arith, c.if-probability.auto.keys),
        omega (arith, c.if-probability.auto.plain),
        sym (taken n at.k ps _ long inside p unit.i _ _ at.rest (both at.keys at.plain) w.if-probability.true
            w.if-rest.false w.loss_of.ensures (both-eq w.keys-is w.plain-is ∙ w.put.ensures) w.rest-is)
            ∙ at.invariant.2,
      )
      | else-probability w ↦ (
        omega (arith, c.if-probability.auto.keys),
        omega (arith, c.if-probability.auto.plain),
        rw (w.keys-is, w.plain-is, w.rest-is) (sym (passed n at.k ps _ long inside p unit.i _ _ at.rest
            (both at.keys at.plain) w.if-probability.false) ∙ at.invariant.2),
      )
    ]

pub loop-i-preserved : goal.loop-i-preserved
loop-i-preserved c =
    let unit = c.loop-i in
    let ns = c.args.losses.now in
    let ps = c.args.probabilities.now in
    let here : unit.i < length ns = omega arith in
    let long : length ps ≡ length ns = omega arith in
    let before = both unit.keys unit.plain in
    elim c.if-loss-gt0.branch [
      | then-loss-gt0+else-loop-k-test w ↦ (
        omega (arith, c.if-loss-gt0.auto.keys),
        omega (arith, c.if-loss-gt0.auto.plain),
        unit-spread ns ps unit.i before here long _ w.if-loss-gt0.true
            (both-eq w.keys-is w.plain-is ∙ sym (ended (length ns) w.loop-k.k ps unit.i _ _ w.loop-k.rest _
            (omega (arith, w.loop-k-test.false))) ∙ w.loop-k.invariant.2) ∙ unit.invariant.2,
      )
      | then-loss-gt0+then-loop-k-test+then-probability+then-rest w ↦ (
        omega (arith, c.if-loss-gt0.auto.keys),
        omega (arith, c.if-loss-gt0.auto.plain),
        unit-spread ns ps unit.i before here long _ w.if-loss-gt0.true
            (both-eq w.keys-is w.plain-is ∙ sym (stopped (length ns) w.loop-k.k ps _ long (omega (arith, w.loop-k-test.true))
            w.probability_at-probability.ensures unit.i _ _ w.loop-k.rest _ w.if-probability.true w.if-rest.true)
            ∙ w.loop-k.invariant.2) ∙ unit.invariant.2,
      )
      | else-loss-gt0 w ↦ (
        omega (arith, c.if-loss-gt0.auto.keys),
        omega (arith, c.if-loss-gt0.auto.plain),
        ap (unit_losses (unit.i + 1) (drop (unit.i + 1) ns) (drop (unit.i + 1) ps)) (both-eq w.keys-is w.plain-is)
            ∙ unit-none ns ps unit.i before here long w.if-loss-gt0.false ∙ unit.invariant.2,
      )
    ]

pub returns : goal.returns
returns c =
    sym (units-done c.args.losses.now c.args.probabilities.now c.loop-i.i _ (omega arith)) ∙ c.loop-i.invariant.2
