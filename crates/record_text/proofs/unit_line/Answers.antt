use Rattle.record_text.specs.Lines.{line_of, unit_line}
use Rattle.record_text.proofs.unit_line.Goals as goal

pub returns : goal.returns
unfolding unit_line line_of
returns c = c.put_line.ensures
