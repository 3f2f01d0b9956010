-- `header_at` meets its contract: counts that fit are taken, and with others the record is read. Assumes nothing.
use mathlib.Core.Path.{sym, ◌∙◌}
use native.Mathlib.Omega.{arith}
use Rattle.record_view.proofs.Counted.{fit-shows, header_read, header-there}
use Rattle.record_view.proofs.header_at.Goals as goal

pub returns-then-not-fit : goal.returns-then-not-fit
returns-then-not-fit c =
    header_read _ _ _ _ (sym c.fit.ensures ∙ c.if-not-fit.true)
    c.header.ensures

pub header_figures-requires : goal.header_figures-requires
header_figures-requires c =
    omega (arith, (fit-shows _ _ _ (sym c.fit.ensures ∙ c.if-not-fit.false)).long)

pub returns : goal.returns
returns c =
    header-there _ _ _ _ (sym c.fit.ensures ∙ c.if-not-fit.false)
    c.header_figures.ensures
