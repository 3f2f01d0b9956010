-- `luma_scenes::scene_row` meets its contract.
use native.Mathlib.Omega.{arith}
use Rattle.luma_scenes.proofs.Loops.{row_is}
use Rattle.luma_scenes.proofs.scene_row.Goals as goal

pub returns-then-j-gt-PICTURES : goal.returns-then-j-gt-PICTURES
returns-then-j-gt-PICTURES c = λ n ss rs qs h g f. absurd (omega arith)

pub returns : goal.returns
returns c =
    let a = c.args in
    let repeats = c.repeated in
    let run = c.longest in
    let scores = c.total in
    let peak = c.peak in
    let changes = c.total-2 in
    λ n ss rs qs h g f. rw (
      c.low.ensures,
      c.low-2.ensures,
      c.low-3.ensures,
      c.low-4.ensures,
      c.low-5.ensures,
    ) (row_is a.luma.now a.i a.j repeats.result run.result scores.result peak.result
    changes.result repeats.ensures run.ensures c.told-luma c.if-j-gt-PICTURES.false
    scores.ensures peak.ensures changes.ensures n ss rs qs h g f)
