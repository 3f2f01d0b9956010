-- `take_cell` meets its contract: the cell is refused, in, or not of the identifier.
use Rattle.std.proofs.Common.{refl, arith, rules}
use Rattle.capture_counts.proofs.Laws.{check-other, check-room, check-full, account-in, account-out}
use Rattle.capture_counts.proofs.Laws.{takes_none, takes_one}
use Rattle.capture_counts.proofs.take_cell.Goals as goal

pub returns-then-is_full : goal.returns-then-is_full
returns-then-is_full c =
    let at = c.args in
    rw c.nine.ensures (takes_none (check-full at.t at.c _ c.wanted.ensures
    c.seen-d.ensures c.if-wanted.true c.is_full.ensures _
    c.if-is_full.true refl refl) (λ z. omega arith))

pub returns-then-wanted : goal.returns-then-wanted
returns-then-wanted c = search (rules, takes_one, check-room, account-in)

pub returns : goal.returns
returns c =
    let at = c.args in
    rw c.pass.ensures
    (takes_one (check-other at.t at.c _ c.wanted.ensures c.if-wanted.false)
    (account-out at.t at.c _ c.wanted.ensures c.if-wanted.false))
