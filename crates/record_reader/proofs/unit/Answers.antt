use borrow.Author.Rules.{rules}
use native.Mathlib.Omega.{arith}
use Rattle.record_reader.proofs.Answers.{accepted, refused-as, unit-given, unit-missing}
use Rattle.rules.specs.Reading.{unit_answer, unit_fault, unit_place}
use Rattle.record_reader.proofs.unit.Goals as goal

pub returns-in_err-counts : goal.returns-in_err-counts
unfolding unit_answer unit_fault
returns-in_err-counts c = search (rules, refused-as)

pub returns-then-counts-j : goal.returns-then-counts-j
returns-then-counts-j c =
    unit-missing _ _ _ _ (accepted _ _ c.«open».ensures _ _ c.in_ok-counts.was) c.if-counts-j.true

pub unit_row-requires : goal.unit_row-requires
unfolding unit_place
unit_row-requires c = omega (arith, (accepted _ _ c.«open».ensures _ _ c.in_ok-counts.was).size)

pub returns : goal.returns
returns c =
    unit-given _ _ _ _ _ (accepted _ _ c.«open».ensures _ _ c.in_ok-counts.was) c.if-counts-j.false c.unit_row.ensures
