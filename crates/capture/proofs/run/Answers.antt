use native.Mathlib.Omega.{arith}
use Rattle.capture.proofs.Pieces.{goes_none, goes-stopped, goes_step, goes-all}
use borrow.Author.Rules.{rules}
use Rattle.capture.proofs.run.Goals as goal

pub loop-i-init : goal.loop-i-init
loop-i-init c = (omega arith, goes_none _ _ _ _)

pub overflow_add-i : goal.overflow_add-i
overflow_add-i c =
    let m = c.next-r.ensures.most in
    omega (arith, c.well_formed.1.1.1.0.0)

pub loop-i-preserved : goal.loop-i-preserved
loop-i-preserved c = (
  c.next-r.ensures.most,
  goes_step _ _ c.loop-i.invariant.1 c.if-m-eq0.true c.next-r.ensures
      c.take.ensures,
)

pub returns-else-m-eq0 : goal.returns-else-m-eq0
returns-else-m-eq0 c = search (rules, goes-stopped)

pub returns-after-loop-i : goal.returns-after-loop-i
returns-after-loop-i c = search (rules, goes-all)
