-- `write_piece` writes a part of its buffer.
use Rattle.std.proofs.Common.{arith, sym, ◌∙◌}
use Rattle.record_text.proofs.Made.{part}
use Rattle.luma_busiest.proofs.Laws.Answers.{done-fits}
use Rattle.busiest.proofs.write_piece.Goals as goal

pub slice_bounds-piece-end : goal.slice_bounds-piece-end
slice_bounds-piece-end g c =
    let e = sym c.luma_piece.ensures.answered ∙ c.in-Ok.is in
    omega (arith, done-fits _ _ _ _ _ _ _ e, c.luma_piece.auto.piece)

pub slice_bounds-write_all-end : goal.slice_bounds-write_all-end
slice_bounds-write_all-end g c =
    let e = sym c.luma_piece.ensures.answered ∙ c.in-Ok.is in
    part _ _ (omega (arith, done-fits _ _ _ _ _ _ _ e, c.luma_piece.auto.piece))
