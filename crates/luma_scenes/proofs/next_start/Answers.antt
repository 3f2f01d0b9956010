use native.Mathlib.Omega.{arith}
use mathlib.Core.Path.{refl, sym, ◌∙◌}
use Rattle.luma_scenes.proofs.Loops.{seeks-first, seeks-more, seeks-found, seeks-none}
use Rattle.luma_scenes.proofs.next_start.Goals as goal

pub returns-then-n-gt-PICTURES : goal.returns-then-n-gt-PICTURES
returns-then-n-gt-PICTURES c =
    record { most = omega arith; more = omega arith; next = λ ss rs qs h k g. absurd (omega arith) }

pub loop-i-init : goal.loop-i-init
loop-i-init c =
    let a = c.args in
    (omega arith, seeks-first a.luma.now a.n a.d a.b)

pub returns-then-starts_scene : goal.returns-then-starts_scene
returns-then-starts_scene c =
    let a = c.args in
    let l = c.loop-i in
    seeks-found a.luma.now a.n a.d a.b l.sum l.i l.invariant.1 (omega arith)
    c.figure-s.result _ c.figure-s.ensures refl
    c.loop-i-test.true (sym c.if-starts_scene.true ∙ c.starts_scene.ensures)

pub loop-i-preserved : goal.loop-i-preserved
loop-i-preserved c =
    let a = c.args in
    let l = c.loop-i in (
      omega arith,
      seeks-more a.luma.now a.n a.d a.b l.sum l.i l.invariant.1 (omega arith)
          c.figure-s.result _ c.figure-s.ensures refl
          c.loop-i-test.true (sym c.if-starts_scene.false ∙ c.starts_scene.ensures),
    )

pub returns : goal.returns
returns c =
    let a = c.args in let l = c.loop-i in
    seeks-none a.luma.now a.n a.d a.b l.sum l.i l.invariant.1 (omega arith) (omega arith)
