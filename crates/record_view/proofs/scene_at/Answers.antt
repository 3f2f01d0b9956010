-- `scene_at` meets its contract: counts that fit are taken, and with others the record is read. Assumes nothing.
use mathlib.Core.Path.{sym, ◌∙◌}
use native.Mathlib.Omega.{arith}
use Rattle.rules.specs.Record.{scene_offset}
use Rattle.record_view.proofs.Counted.{fit-shows, scene-read, scene-missing, scene-there}
use Rattle.record_view.proofs.scene_at.Goals as goal

pub returns-then-not-fit : goal.returns-then-not-fit
returns-then-not-fit c =
    scene-read _ _ _ _ _ (sym c.fit.ensures ∙ c.if-not-fit.true)
    c.scene.ensures

pub returns-then-scenes-j : goal.returns-then-scenes-j
returns-then-scenes-j c =
    scene-missing _ _ _ _ (sym c.fit.ensures ∙ c.if-not-fit.false) c.if-scenes-j.true

pub scene_row-requires : goal.scene_row-requires
unfolding scene_offset
scene_row-requires c =
    let f = fit-shows _ _ _ (sym c.fit.ensures ∙ c.if-not-fit.false) in
    (f.said, omega (arith, f.long))

pub returns : goal.returns
returns c =
    scene-there _ _ _ _ _ (sym c.fit.ensures ∙ c.if-not-fit.false)
    c.if-scenes-j.false c.scene_row.ensures
