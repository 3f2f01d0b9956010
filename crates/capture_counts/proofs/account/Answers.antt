-- `account` meets its contract: the cell is of the identifier, or not.
use Rattle.capture_counts.proofs.Laws.{account-in, account-out}
use Rattle.std.proofs.Common.{rules}
use Rattle.capture_counts.proofs.account.Goals as goal

pub returns-then-wanted : goal.returns-then-wanted
returns-then-wanted c = search (rules, account-in)

pub returns : goal.returns
returns c =
    let at = c.args in
    rw c.pass.ensures (account-out at.t at.c _ c.wanted.ensures c.if-wanted.false)
