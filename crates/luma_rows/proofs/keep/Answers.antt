use Rattle.std.proofs.Common.{rules}
use Rattle.std.proofs.lemmas.List.{places}
use Rattle.luma_rows.proofs.keep.Goals as goal

pub returns : goal.returns
returns c = record { size = search (rules, places); same = λ e j h. search (rules, places) }
