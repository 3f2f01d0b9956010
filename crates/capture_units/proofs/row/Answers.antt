-- `row` meets its contract: of so few cells every figure fits 32 bits.
use Rattle.capture_units.proofs.Steps.{row_is}
use Rattle.capture_units.proofs.row.Goals as goal

pub returns : goal.returns
returns c =
    rw (c.low.ensures, c.from.ensures, c.low-packets.ensures, c.low-2.ensures, c.low-3.ensures) (row_is c.unit_at-u.ensures)
