-- `open` meets its contract: 27, or what reading the records gives. Assumes nothing.
use mathlib.Core.Path.{sym, ◌∙◌}
use Rattle.shelf.proofs.Steps.{not-laid-out, records-answer}
use Rattle.shelf.proofs.open.Goals as goal

pub returns-then-not-laid_out : goal.returns-then-not-laid_out
returns-then-not-laid_out c =
    not-laid-out c.args.bytes.now
    (sym c.laid_out.ensures ∙ c.if-not-laid_out.true)

pub read_records-requires : goal.read_records-requires
read_records-requires c = sym c.laid_out.ensures ∙ c.if-not-laid_out.false

pub returns : goal.returns
returns c =
    records-answer c.args.bytes.now
    (sym c.laid_out.ensures ∙ c.if-not-laid_out.false) _ c.read_records.ensures
