use native.Mathlib.Omega.{arith}
use lib.ListN.{length-take, length-drop}
use native.Mathlib.Nat.{sub-zero, add-zero}
use Rattle.record_allowed.proofs.Rows.{scenes-more, scenes-stop, scenes-end}
use borrow.Author.Rules.{rules}
use Rattle.record_allowed.proofs.allowed_scenes.Goals as goal

pub loop-j-init : goal.loop-j-init
loop-j-init c = (omega arith, rw (sub-zero, add-zero))

pub allowed_scene-requires : goal.allowed_scene-requires
allowed_scene-requires c = simp (length-take, length-drop) (omega arith)

pub returns-then-not-allowed_scene : goal.returns-then-not-allowed_scene
returns-then-not-allowed_scene c = search (rules, scenes-stop)

pub word-from-requires : goal.word-from-requires
word-from-requires c = simp (length-take, length-drop) (omega arith)

pub loop-j-preserved : goal.loop-j-preserved
loop-j-preserved c = search (rules, scenes-more)

pub returns : goal.returns
returns c = search (rules, scenes-end)
