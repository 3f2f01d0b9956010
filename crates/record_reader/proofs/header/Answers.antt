use borrow.Author.Rules.{rules}
use native.Mathlib.Omega.{arith}
use Rattle.rules.specs.Reading.{header_answer}
use Rattle.record_reader.proofs.Answers.{accepted, refused-as, header-given}
use Rattle.record_reader.proofs.header.Goals as goal

pub returns-in_err-open : goal.returns-in_err-open
unfolding header_answer
returns-in_err-open c = search (rules, refused-as)

pub header_figures-requires : goal.header_figures-requires
header_figures-requires c = omega (arith, (accepted _ _ c.«open».ensures _ _ c.in_ok-open.was).size)

pub returns : goal.returns
returns c = header-given _ _ (accepted _ _ c.«open».ensures _ _ c.in_ok-open.was).fault c.header_figures.ensures
