use Rattle.std.proofs.Common.{◌≡◌, ◌+◌, ◌-◌, ◌*◌, take, drop, refl, ap, arith}
use Rattle.std.proofs.Common.{length-take, length-take-le, length-drop}
use Rattle.luma_rows.proofs.Rows.{of_slices}
use Rattle.luma_rows.proofs.Plain.{rows-room, plain_rows}
use Rattle.luma_rows.proofs.take_plain.Goals as goal

pub overflow_mul-base : goal.overflow_mul-base
overflow_mul-base c =
    let a = c.args in
    omega (arith, rows-room a.g a.s a.rest.now a.j c.requires)

pub compare-m-requires : goal.compare-m-requires
compare-m-requires c =
    let p = c.requires in let a = c.args in
    let room = rows-room a.g a.s a.rest.now a.j p in
    simp (length-take, length-drop) (omega (arith, p.there))

pub put-requires : goal.put-requires
put-requires c =
    let p = c.requires in let a = c.args in
    (p.there, omega (arith, rows-room a.g a.s a.rest.now a.j p))

pub next_row-requires : goal.next_row-requires
next_row-requires c =
    let p = c.requires in let e = c.moved_to-t.ensures in
    (p.fits, rw e p.lines)

pub returns : goal.returns
returns c =
    let p = c.requires in
    let a = c.args in
    let b = a.s.line * a.g.columns in
    let k = a.j * a.g.columns in
    let long : b + k - b ≡ k = omega arith in
    plain_rows a.g a.s p (λ i. omega (arith, c.type_inv.rest i))
    c.moves_in.ensures
    (of_slices b 0 k (ap (λ n. take n (drop b a.picture.now)) long) refl (length-take-le k a.rest.now p.there)
    c.compare-m.ensures) c.put.ensures
    c.count_rows.ensures _ (rw c.moved_to-t.ensures at c.next_row.ensures)
