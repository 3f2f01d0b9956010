use native.Mathlib.Omega.{arith}
use mathlib.Core.Path.{ap, ◌∙◌}
use Rattle.rules.specs.Record.{scene_offset}
use Rattle.record_rows.specs.Rows.{scene_figures}
use Rattle.record_rows.proofs.Filling.{none-laid, one_more, all_laid}
use Rattle.record_rows.proofs.put_scenes.Goals as goal

pub loop-j-init : goal.loop-j-init
loop-j-init c = none-laid _ _ _

pub scene_row-requires : goal.scene_row-requires
unfolding scene_offset
scene_row-requires c = (c.requires.0, omega arith)

pub loop-j-preserved : goal.loop-j-preserved
loop-j-preserved c =
    one_more _ _ _ _ _ _ c.loop-j.invariant c.loop-j-test.true c.requires.2
    (c.scene_figures.ensures ∙ ap scene_figures c.scene_row.ensures)

pub returns : goal.returns
returns c = all_laid _ _ _ _ _ c.loop-j.invariant c.loop-j-test.false
