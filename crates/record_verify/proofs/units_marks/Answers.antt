use Prim.Native.Nat.{ℕ}
use native.Mathlib.Omega.{arith}
use mathlib.Core.Path.{◌≡◌, ap, ◌∙◌}
use Rattle.rules.specs.declared.UnitRow.{UnitRow}
use Rattle.rules.specs.Reading.{unit_place, unit_at}
use Rattle.record_verify.specs.Marks.{unit_checks, units_checks, first_failing}
use Rattle.record_verify.proofs.Rows.{none_yet, one_more, one-fails, all_done}
use Rattle.record_verify.proofs.units_marks.Goals as goal

pub loop-j-init : goal.loop-j-init
unfolding units_checks
loop-j-init c =
    let r = c.args.bytes.now in
    rw c.requires.counts.0 (none_yet (λ (k : ℕ). unit_checks k (unit_at r k)) _)

pub unit_row-requires : goal.unit_row-requires
unfolding unit_place
unit_row-requires c = omega arith

pub returns-in_err-unit_marks : goal.returns-in_err-unit_marks
returns-in_err-unit_marks c =
    let r = c.args.bytes.now in
    let asked : c.unit_marks.result ≡ first_failing (unit_checks c.loop-j.j (unit_at r c.loop-j.j)) =
    c.unit_marks.ensures ∙ ap (λ (u : UnitRow). first_failing (unit_checks c.loop-j.j u)) c.unit_row.ensures in
    one-fails (λ (k : ℕ). unit_checks k (unit_at r k)) _ c.loop-j.j _ _ c.loop-j.invariant
    c.loop-j-test.true asked _ c.in_err-unit_marks.was _ c.from_residual.ensures.1

pub loop-j-preserved : goal.loop-j-preserved
loop-j-preserved c =
    let r = c.args.bytes.now in
    let asked : c.unit_marks.result ≡ first_failing (unit_checks c.loop-j.j (unit_at r c.loop-j.j)) =
    c.unit_marks.ensures ∙ ap (λ (u : UnitRow). first_failing (unit_checks c.loop-j.j u)) c.unit_row.ensures in
    one_more (λ (k : ℕ). unit_checks k (unit_at r k)) _ c.loop-j.j _ _ c.loop-j.invariant
    c.loop-j-test.true asked c.in_ok-unit_marks.was

pub returns : goal.returns
returns c =
    let r = c.args.bytes.now in
    all_done (λ (k : ℕ). unit_checks k (unit_at r k)) _ _ _ c.loop-j.invariant c.loop-j-test.false
