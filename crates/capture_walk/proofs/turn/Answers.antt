use Prim.Native.Nat.{◌-◌}
use native.Mathlib.Omega.{arith}
use lib.ListN.{length, length-drop}
use Rattle.capture_steps.proofs.Pieces.{part-rest, moved}
use Rattle.capture_walk.proofs.Standing.{turned}
use Rattle.capture_walk.proofs.turn.Goals as goal

pub returns-in-Some : goal.returns-in-Some
returns-in-Some c =
    let a = c.args in
    let ahead = rw c.in-Some.is at c.whole_size.ensures in
    let h = rw (part-rest a.piece.now a.i (length a.piece.now - a.i) (omega arith)) at ahead in
    let l = length-drop a.i a.piece.now in
    turned (omega arith) (omega arith) (c.on_frame.ensures _)

pub returns-then-s-lt24 : goal.returns-then-s-lt24
returns-then-s-lt24 c =
    let p = c.span-n.ensures in
    turned p.some (omega arith) (moved _ _ _ _ (omega arith) (omega arith) c.on_file.ensures)

pub returns-then-s-lt16 : goal.returns-then-s-lt16
returns-then-s-lt16 c =
    let p = c.span-n.ensures in
    turned p.some (omega arith) (moved _ _ _ _ (omega arith) (omega arith) c.on_header.ensures)

pub returns-then-s-lt58 : goal.returns-then-s-lt58
returns-then-s-lt58 c =
    let p = c.span-n.ensures in
    turned p.some (omega arith) (moved _ _ _ _ (omega arith) (omega arith) c.on_front.ensures)

pub returns-then-s-eq0 : goal.returns-then-s-eq0
returns-then-s-eq0 c =
    let p = c.span-n.ensures in
    turned p.some (omega arith) (moved _ _ _ _ (omega arith) (omega arith) c.on_tail.ensures)

pub returns-then-s-lt4 : goal.returns-then-s-lt4
returns-then-s-lt4 c =
    let p = c.span-n.ensures in
    turned p.some (omega arith) (moved _ _ _ _ (omega arith) (omega arith) c.on_first.ensures)

pub returns : goal.returns
returns c =
    let p = c.span-n.ensures in
    turned p.some (omega arith) (moved _ _ _ _ (omega arith) (omega arith) c.on_rest.ensures)
