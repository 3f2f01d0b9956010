use Rattle.record_text.specs.Lines.{line_of, refused_line}
use Rattle.record_text.proofs.Texts.{one-field}
use Rattle.record_text.proofs.refused_line.Goals as goal

pub returns : goal.returns
unfolding refused_line line_of
returns c = rw (one-field c.args.number) at c.put_line.ensures
