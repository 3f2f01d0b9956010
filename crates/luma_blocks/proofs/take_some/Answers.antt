-- `take_some` meets its contract.
use Prim.Native.Nat.{◌+◌, ◌-◌, ◌≤◌, ◌<◌}
use native.Mathlib.Omega.{arith}
use lib.ListN.{length, length-take, length-drop}
use mathlib.Core.Path.{◌≡◌}
use Rattle.luma_blocks.proofs.Rows.{going_more, going-two, two-inside}
use Rattle.luma_blocks.proofs.take_some.Goals as goal

pub blocks-requires : goal.blocks-requires
blocks-requires c =
    let p = c.requires.0 in
    let a = c.args in
    let next = c.two_next.ensures c.if-two_next.true in (
      omega arith,
      record {
        some = p.some;
        few = p.few;
        room = omega arith;
        inside = two-inside _ _ _ _ (omega arith) (omega arith);
      },
    )

pub returns-then-two_next : goal.returns-then-two_next
returns-then-two_next c =
    let p = c.requires.0 in
    let a = c.args in
    let next = c.two_next.ensures c.if-two_next.true in
    let wide : 0 < a.shape.width = omega arith in
    record {
      some = omega arith;
      goes = λ row col first g.
          going-two g next wide p.some (c.blocks-then-two_next.ensures a.shape.columns (omega arith) p.room);
    }

pub add_run-requires : goal.add_run-requires
add_run-requires c =
    let p = c.requires.0 in
    record { some = p.some; few = p.few; room = p.room; narrow = simp (length-take, length-drop) (omega arith) }

pub returns : goal.returns
returns c =
    let p = c.requires in
    let a = c.args in
    let t = c.min-t.result in
    let left : 0 < a.shape.width - a.p.col = omega arith in
    let rest : 0 < length a.piece.now - a.p.used = omega arith in
    let some : 0 < t = omega arith in
    let fits : a.p.col + t ≤ a.shape.width = omega arith in
    let here : a.p.used + t ≤ length a.piece.now = omega arith in
    let long : a.p.used + t - a.p.used ≡ t = omega arith in
    let added = rw long at c.add_run.ensures in
    record {
      some = omega arith;
      goes = λ row col first g. going_more t g p.0.above fits here added c.advance.ensures;
    }
