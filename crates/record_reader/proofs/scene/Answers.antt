use borrow.Author.Rules.{rules}
use native.Mathlib.Omega.{arith}
use Rattle.rules.specs.Reading.{scene_answer, scene_fault}
use Rattle.record_reader.proofs.Answers.{accepted, refused-as, scene-given, scene-missing}
use Rattle.rules.specs.Record.{scene_offset}
use Rattle.record_reader.proofs.scene.Goals as goal

pub returns-in_err-counts : goal.returns-in_err-counts
unfolding scene_answer scene_fault
returns-in_err-counts c = search (rules, refused-as)

pub returns-then-counts-j : goal.returns-then-counts-j
returns-then-counts-j c =
    scene-missing _ _ _ _ (accepted _ _ c.«open».ensures _ _ c.in_ok-counts.was) c.if-counts-j.true

pub scene_row-requires : goal.scene_row-requires
unfolding scene_offset
scene_row-requires c =
    let a = accepted _ _ c.«open».ensures _ _ c.in_ok-counts.was in (a.units, omega (arith, a.size))

pub returns : goal.returns
returns c =
    scene-given _ _ _ _ _ (accepted _ _ c.«open».ensures _ _ c.in_ok-counts.was) c.if-counts-j.false c.scene_row.ensures
