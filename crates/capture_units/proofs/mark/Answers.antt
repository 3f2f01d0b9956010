-- `mark` meets its contract: the last row has one damaged cell more.
use Rattle.std.proofs.Common.{arith}
use Rattle.capture_units.proofs.Steps.{hurts-by}
use Rattle.capture_units.proofs.mark.Goals as goal

pub returns-in-Some : goal.returns-in-Some
returns-in-Some c =
    hurts-by _ _ (omega arith)
    c.unit_at-u.ensures
    c.marked.ensures
    c.put_unit.ensures
