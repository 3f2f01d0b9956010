-- `unit_at` meets its contract: counts that fit are taken, and with others the record is read. Assumes nothing.
use mathlib.Core.Path.{sym, ◌∙◌}
use native.Mathlib.Omega.{arith}
use Rattle.rules.specs.Reading.{unit_place}
use Rattle.record_view.proofs.Counted.{fit-shows, unit-read, unit-missing, unit-there}
use Rattle.record_view.proofs.unit_at.Goals as goal

pub returns-then-not-fit : goal.returns-then-not-fit
returns-then-not-fit c = unit-read _ _ _ _ _ (sym c.fit.ensures ∙ c.if-not-fit.true) c.unit.ensures

pub returns-then-units-j : goal.returns-then-units-j
returns-then-units-j c =
    unit-missing _ _ _ _ (sym c.fit.ensures ∙ c.if-not-fit.false) c.if-units-j.true

pub unit_row-requires : goal.unit_row-requires
unfolding unit_place
unit_row-requires c = omega (arith, (fit-shows _ _ _ (sym c.fit.ensures ∙ c.if-not-fit.false)).long)

pub returns : goal.returns
returns c =
    unit-there _ _ _ _ _ (sym c.fit.ensures ∙ c.if-not-fit.false)
    c.if-units-j.false c.unit_row.ensures
