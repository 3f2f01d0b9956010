-- `is_full` meets its contract: one cell more is at most one unit more, and a damaged one is none.
use Rattle.std.proofs.Common.{false}
use Rattle.capture_units.proofs.Steps.{room, full}
use Rattle.capture_units.proofs.is_full.Goals as goal

pub returns-then-s : goal.returns-then-s
returns-then-s c w ps st = room c.args.c st c.if-s.true

pub returns-then-not-is_damaged : goal.returns-then-not-is_damaged
returns-then-not-is_damaged c w ps st =
    full c.args.c _ st c.if-s.false
    (rw (← c.is_damaged.ensures, c.if-not-is_damaged.true))

pub returns-else-not-is_damaged : goal.returns-else-not-is_damaged
returns-else-not-is_damaged c w ps st =
    rw c.if-not-is_damaged.false (full c.args.c false st c.if-s.false
    (rw (← c.is_damaged.ensures, c.if-not-is_damaged.false)))
