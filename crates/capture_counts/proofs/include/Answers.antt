-- `include` meets its contract: a cell that is not bad is in a unit.
use Rattle.std.proofs.Common.{sym, refl, ◌∙◌}
use Rattle.capture_counts.specs.Counts.{as_unit}
use Rattle.capture_counts.proofs.include.Goals as goal

pub returns : goal.returns
returns c = as_unit _ (sym c.is_early.ensures ∙ c.if-is_early.false) c.add_cell.ensures refl
