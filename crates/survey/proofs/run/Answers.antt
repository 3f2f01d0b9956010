use native.Mathlib.Omega.{arith}
use Rattle.survey.proofs.Steps.{goes_none, goes_step, goes-all}
use borrow.Author.Rules.{rules}
use Rattle.survey.proofs.run.Goals as goal

pub loop-i-init : goal.loop-i-init
loop-i-init c = (omega arith, goes_none _ _ _)

pub loop-i-preserved : goal.loop-i-preserved
loop-i-preserved c =
    let l = c.loop-i in
    let n = c.next-r.ensures in
    (n.most, goes_step l.invariant.1 n c.take.ensures)

pub returns : goal.returns
returns c = search (rules, goes-all)
