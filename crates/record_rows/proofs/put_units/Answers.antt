use native.Mathlib.Omega.{arith}
use mathlib.Core.Path.{ap, ◌∙◌}
use Rattle.rules.specs.Reading.{unit_place}
use Rattle.record_rows.specs.Rows.{unit_figures}
use Rattle.record_rows.proofs.Filling.{none-laid, one_more, all_laid}
use Rattle.record_rows.proofs.put_units.Goals as goal

pub loop-j-init : goal.loop-j-init
loop-j-init c = none-laid _ _ _

pub unit_row-requires : goal.unit_row-requires
unfolding unit_place
unit_row-requires c = omega arith

pub loop-j-preserved : goal.loop-j-preserved
loop-j-preserved c =
    one_more _ _ _ _ _ _ c.loop-j.invariant c.loop-j-test.true c.requires.1
    (c.unit_figures.ensures ∙ ap unit_figures c.unit_row.ensures)

pub returns : goal.returns
returns c = all_laid _ _ _ _ _ c.loop-j.invariant c.loop-j-test.false
