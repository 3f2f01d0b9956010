use Rattle.std.proofs.Common.{◌≡◌, ℕ, ◌+◌, ◌*◌, ◌/◌, ◌<◌, ◌≤◌, subst, mul-le-mul, arith, Fits-le, Fits-lit}
use Rattle.luma_changes.proofs.Roots.{start, root_is}
use Rattle.luma_changes.proofs.changes.root.Goals as goal

middle : {low high : ℕ} → low < high → high ≤ 51001 → (low + high) / 2 ≤ 51001
middle l h = omega arith

pub overflow_mul-target : goal.overflow_mul-target
overflow_mul-target c = omega (arith, mul-le-mul c.requires.few c.requires.few)

pub loop-low-init : goal.loop-low-init
loop-low-init c = (omega arith, omega arith, omega arith, start c.requires)

pub overflow_mul-mid : goal.overflow_mul-mid
overflow_mul-mid c =
    let mid = middle c.loop-low.invariant.0 c.loop-low.invariant.1 in
    Fits-le (mul-le-mul mid mid) (Fits-lit tt)

pub overflow_mul-mid-in-loop-low : goal.overflow_mul-mid-in-loop-low
overflow_mul-mid-in-loop-low c =
    let mid = middle c.loop-low.invariant.0 c.loop-low.invariant.1 in
    Fits-le (mul-le-mul (mul-le-mul mid mid) c.requires.few) (Fits-lit tt)

pub overflow_mul-mid-in-loop-low-2 : goal.overflow_mul-mid-in-loop-low-2
overflow_mul-mid-in-loop-low-2 c =
    let mid = middle c.loop-low.invariant.0 c.loop-low.invariant.1 in
    let few = c.requires.few in
    Fits-le (mul-le-mul (mul-le-mul (mul-le-mul mid mid) few) few) (Fits-lit tt)

pub loop-low-preserved-then-mid-n : goal.loop-low-preserved-then-mid-n
loop-low-preserved-then-mid-n c = (omega arith, omega arith, c.if-mid-n.true, c.loop-low.invariant.3)

pub loop-low-preserved : goal.loop-low-preserved
loop-low-preserved c = (omega arith, omega arith, c.loop-low.invariant.2, c.if-mid-n.false)

pub returns : goal.returns
returns c =
    let at = c.loop-low in let from = c.args in
    let next : at.high ≡ at.low + 1 = omega arith in
    let passed = subst (λ (q : ℕ). 10000 * from.v < q * q * from.n * from.n) next at.invariant.3 in
    (root_is c.requires (record { reached = at.invariant.2; passed = passed }), omega arith)
