-- `fill_pictures` meets its contract. The loop's invariant: the piece's first bytes, up to where picture i begins, are
-- the luma's.
use Prim.Native.Nat.{◌-◌, ◌*◌, min}
use Rattle.luma_busiest.proofs.Laws.Pieces.{Filled}
use Rattle.luma_busiest.proofs.fill_pictures.Given as goal

abbrev pub invariant-loop-i : goal.invariant-loop-i
invariant-loop-i l =
    let begins = min (l.i * (l.width * l.height) - l.at) l.end in
    Filled l.width l.height l.time l.pictures l.at l.initial.piece begins l.piece
