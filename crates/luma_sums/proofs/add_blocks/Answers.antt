use Rattle.std.proofs.Common.{arith, rules, length-take, length-drop}
use Rattle.std.proofs.lemmas.List.{take_rest}
use Rattle.luma_sums.proofs.Runs.{added-past, from-edge, one-inside}
use Rattle.luma_sums.proofs.add_blocks.Goals as goal

pub returns-then-w-c : goal.returns-then-w-c
returns-then-w-c c = search (rules, added-past)

pub fitting-k-requires : goal.fitting-k-requires
fitting-k-requires c =
    let p = c.requires in
    (p.some, p.few, omega arith)

pub row_blocks-requires : goal.row_blocks-requires
row_blocks-requires c =
    let p = c.requires in
    let fits = c.fitting-k.ensures.1 in
    record { some = p.some; few = p.few; room = omega arith; inside = one-inside _ _ _ (omega arith) }

pub part-requires : goal.part-requires
part-requires c =
    let p = c.requires in
    (p.room, λ h. simp (length-take, length-drop) (omega arith))

pub returns : goal.returns
returns c =
    let p = c.requires in
    let a = c.args in
    let e = c.fitting-k.ensures in
    let k = c.fitting-k.result in
    from-edge a.n a.w a.c a.bytes.now k p.some p.room (omega arith) e.1 (λ h. e.2 (omega arith)) c.row_blocks.ensures
    (rw take_rest at c.part.ensures)
