use mathlib.Core.Path.{sym, ◌∙◌}
use Rattle.record_reader.proofs.Answers.{refused-as}
use Rattle.record_view.proofs.Counted.{counts-opened, counts-refused}
use Rattle.record_view.proofs.counts_in.Goals as goal

pub returns-in-Ok : goal.returns-in-Ok
returns-in-Ok c = counts-opened _ _ _ (sym c.«open».ensures ∙ c.in-Ok.is)

pub returns-in-Err : goal.returns-in-Err
returns-in-Err c = counts-refused _ _ _ (refused-as _ _ c.«open».ensures _ c.in-Err.is)
