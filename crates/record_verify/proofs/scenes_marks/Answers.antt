use Prim.Native.Nat.{ℕ}
use native.Mathlib.Omega.{arith}
use mathlib.Core.Path.{◌≡◌, ap, ◌∙◌}
use Rattle.rules.specs.declared.SceneRow.{SceneRow}
use Rattle.rules.specs.Record.{scene_offset}
use Rattle.rules.specs.Reading.{header_of, scene_at}
use Rattle.record_verify.specs.Marks.{scene_checks, scenes_checks, first_failing}
use Rattle.record_verify.proofs.Rows.{none_yet, one_more, one-fails, all_done}
use Rattle.record_verify.proofs.scenes_marks.Goals as goal

pub loop-j-init : goal.loop-j-init
unfolding scenes_checks
loop-j-init c =
    let r = c.args.bytes.now in
    rw (c.requires.counts.1, c.requires.header)
    (none_yet (λ (k : ℕ). scene_checks (header_of r) k (scene_at r k)) _)

pub scene_row-row-requires : goal.scene_row-row-requires
unfolding scene_offset
scene_row-row-requires c = (c.requires.counts.0, omega arith)

pub returns-in_err-scene_marks : goal.returns-in_err-scene_marks
returns-in_err-scene_marks c =
    let a = c.args in
    let asked : c.scene_marks.result ≡ first_failing (scene_checks a.h c.loop-j.j (scene_at a.bytes.now c.loop-j.j)) =
    c.scene_marks.ensures
    ∙ ap (λ (s : SceneRow). first_failing (scene_checks a.h c.loop-j.j s)) c.scene_row-row.ensures in
    one-fails (λ (k : ℕ). scene_checks a.h k (scene_at a.bytes.now k)) _ c.loop-j.j _ _ c.loop-j.invariant
    c.loop-j-test.true asked _ c.in_err-scene_marks.was _ c.from_residual.ensures.1

pub loop-j-preserved : goal.loop-j-preserved
loop-j-preserved c =
    let a = c.args in
    let asked : c.scene_marks.result ≡ first_failing (scene_checks a.h c.loop-j.j (scene_at a.bytes.now c.loop-j.j)) =
    c.scene_marks.ensures
    ∙ ap (λ (s : SceneRow). first_failing (scene_checks a.h c.loop-j.j s)) c.scene_row-row.ensures in
    one_more (λ (k : ℕ). scene_checks a.h k (scene_at a.bytes.now k)) _ c.loop-j.j _ _ c.loop-j.invariant
    c.loop-j-test.true asked c.in_ok-scene_marks.was

pub returns : goal.returns
returns c =
    let a = c.args in
    all_done (λ (k : ℕ). scene_checks a.h k (scene_at a.bytes.now k)) _ _ _ c.loop-j.invariant
    c.loop-j-test.false
