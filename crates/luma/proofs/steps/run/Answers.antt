use Rattle.std.proofs.Common.{lt_of_le_of_lt, arith, rules}
use Rattle.luma.proofs.Pieces.{taking-rest, on-rest, onward, goes_none, goes-more, ran-all, ran_over}
use Rattle.luma.proofs.steps.run.Goals as goal

pub loop-at-init : goal.loop-at-init
loop-at-init c = (omega arith, c.requires.1, goes_none _ _ _ _ _ _)

pub returns-then-s-eq-PICTURES : goal.returns-then-s-eq-PICTURES
returns-then-s-eq-PICTURES c = search (rules, ran_over)

pub step-t-requires : goal.step-t-requires
step-t-requires c =
    let l = c.loop-at in
    taking-rest c.args.g l.s c.args.piece.now l.at c.requires.0 l.invariant.1
    (omega arith) c.loop-at-test.true

pub overflow_add-at : goal.overflow_add-at
overflow_add-at c =
    let p = c.args.piece.now in
    let m = onward p c.loop-at.at c.loop-at-test.true
    c.step-t.ensures in
    record { fits = lt_of_le_of_lt m.most c.well_formed.1.1.1.1.1.1.0.0 }

pub loop-at-smaller : goal.loop-at-smaller
loop-at-smaller c = search (rules, onward)

pub loop-at-preserved : goal.loop-at-preserved
loop-at-preserved c =
    let l = c.loop-at in
    let p = c.args.piece.now in
    let m = onward p l.at c.loop-at-test.true c.step-t.ensures in
    let e = on-rest p l.at c.step-t.ensures in
    (m.most, e.sane, goes-more c.args.g _ l.s _ p l.at l.invariant.2 e)

pub returns : goal.returns
returns c = search (rules, ran-all)
