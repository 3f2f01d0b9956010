use Rattle.std.proofs.Common.{arith}
use Rattle.rules.specs.Record.{scene_offset}
use Rattle.show.proofs.show_scenes.Goals as goal

pub scene_row-row-requires : goal.scene_row-row-requires
unfolding scene_offset
scene_row-row-requires g c = (c.requires.0, omega arith)
