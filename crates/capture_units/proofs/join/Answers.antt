-- `join` meets its contract: the last row changed.
use Rattle.std.proofs.Common.{arith}
use Rattle.capture_units.proofs.Steps.{joins-by}
use Rattle.capture_units.proofs.join.Goals as goal

pub returns : goal.returns
returns c =
    joins-by _ _ c.args.c _ (omega arith)
    c.loss-lost.ensures
    c.unit_at-u.ensures
    c.joined.ensures
    c.put_unit.ensures
    c.taken.ensures
