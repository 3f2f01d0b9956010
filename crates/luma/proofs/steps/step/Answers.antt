use Rattle.std.proofs.Common.{[]}
use Rattle.luma.proofs.Pieces.{stepped, to-finish}
use Rattle.luma.proofs.steps.step.Goals as goal
use Rattle.luma.proofs.steps.step.Goals.{then-g-s, else-g-s}

pub finish-requires : goal.finish-requires
finish-requires c =
    let a = c.args in
    elim c.if-g-s.branch [
      | then-g-s w ↦ rw w.t-is (to-finish a.g a.s c.requires (w.pass-t.ensures [] [] []))
      | else-g-s w ↦ rw w.t-is (to-finish a.g a.s c.requires w.draw-t.ensures)
    ]

pub returns : goal.returns
returns c =
    let a = c.args in
    elim c.if-g-s.branch [
      | then-g-s w ↦ rw (w.sums-is, w.picture-is)
          (stepped a.g a.s (w.pass-t.ensures a.sums.now a.bins.now a.picture.now)
          (rw (w.t-is, w.bins-is) at c.finish.ensures))
      | else-g-s w ↦ rw (w.sums-is, w.picture-is)
          (stepped a.g a.s w.draw-t.ensures (rw (w.t-is, w.bins-is) at c.finish.ensures))
    ]
