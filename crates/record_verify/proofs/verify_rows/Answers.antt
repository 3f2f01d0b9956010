-- `verify_rows` meets its contract: the calls on a record that was accepted, and the verdict by their answers. Assumes
-- nothing.
use native.Mathlib.Omega.{arith}
use mathlib.Core.Path.{ap}
use Rattle.record_verify.specs.declared.Reached.{Reached}
use Rattle.record_verify.specs.declared.Verdict.TheVariants.{CouldBeSealed}
use Rattle.record_verify.proofs.Accepted.{taken, units-there, scenes-there, index_is, reached-is}
use Rattle.record_verify.proofs.verify_rows.Goals as goal

pub unit_totals-totals-requires-clause-room : goal.unit_totals-totals-requires-clause-room
unit_totals-totals-requires-clause-room c = units-there c.args.bytes.now _ _ c.requires.counts c.requires.allowed

pub header_figures-pictures-requires : goal.header_figures-pictures-requires
header_figures-pictures-requires c =
    omega (arith, (taken c.args.bytes.now _ _ c.requires.counts c.requires.allowed).size)

pub repeated_total-requires-clause-room : goal.repeated_total-requires-clause-room
repeated_total-requires-clause-room c = scenes-there c.args.bytes.now _ _ c.requires.counts c.requires.allowed

pub all_marks-requires-clause-of_its_rows : goal.all_marks-requires-clause-of_its_rows
all_marks-requires-clause-of_its_rows c =
    let i = index_is c.args.bytes.now _ _ c.requires.counts c.requires.allowed _ c.header_figures-pictures.ensures _
    c.unit_totals-totals.ensures _ _ _ c.repeated_total.ensures c.saturating_sub-unrepeated.ensures
    c.index_of_totals-index.ensures in
    (c.unit_totals-totals.ensures, i)

pub returns-in-Ok : goal.returns-in-Ok
returns-in-Ok c =
    let x = reached-is c.args.bytes.now _ _ c.requires.counts c.requires.allowed _ c.header_figures-pictures.ensures _
    c.unit_totals-totals.ensures _ _ _ c.repeated_total.ensures c.saturating_sub-unrepeated.ensures
    c.index_of_totals-index.ensures in
    rw (← c.all_marks.ensures, c.in-Ok.is) (ap (λ (y : Reached). CouldBeSealed y) x)
