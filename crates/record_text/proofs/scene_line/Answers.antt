use Rattle.record_text.specs.Lines.{line_of, scene_line}
use Rattle.record_text.proofs.scene_line.Goals as goal

pub returns : goal.returns
unfolding scene_line line_of
returns c = c.put_line.ensures
