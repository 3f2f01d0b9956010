use Rattle.std.proofs.Common.{arith}
use Rattle.rules.specs.Reading.{unit_place}
use Rattle.show.proofs.show_units.Goals as goal

pub unit_row-row-requires : goal.unit_row-row-requires
unfolding unit_place
unit_row-row-requires g c = omega arith
