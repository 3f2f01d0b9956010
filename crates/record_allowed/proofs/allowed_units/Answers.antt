use native.Mathlib.Omega.{arith}
use lib.ListN.{length-take, length-drop}
use native.Mathlib.Nat.{sub-zero}
use Rattle.record_allowed.proofs.Rows.{units-more, units-stop, units-end}
use borrow.Author.Rules.{rules}
use Rattle.record_allowed.proofs.allowed_units.Goals as goal

pub loop-j-init : goal.loop-j-init
loop-j-init c = rw sub-zero

pub allowed_unit-requires : goal.allowed_unit-requires
allowed_unit-requires c = simp (length-take, length-drop) (omega arith)

pub returns-then-not-allowed_unit : goal.returns-then-not-allowed_unit
returns-then-not-allowed_unit c = search (rules, units-stop)

pub loop-j-preserved : goal.loop-j-preserved
loop-j-preserved c = search (rules, units-more)

pub returns : goal.returns
returns c = search (rules, units-end)
