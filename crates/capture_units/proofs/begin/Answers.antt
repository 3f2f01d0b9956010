-- `begin` meets its contract: a row more, where there is room.
use Rattle.std.proofs.Common.{arith}
use Rattle.capture_units.proofs.Steps.{no_room, begins-by}
use Rattle.capture_units.proofs.begin.Goals as goal

pub returns-then-s : goal.returns-then-s
returns-then-s c cs h st few = absurd (omega (arith, no_room c.args.c st h c.if-s.true))

pub returns : goal.returns
returns c =
    begins-by _ _ c.args.c
    c.if-s.false
    c.loss-lost.ensures
    c.begun.ensures
    c.put_unit.ensures
    c.taken.ensures
