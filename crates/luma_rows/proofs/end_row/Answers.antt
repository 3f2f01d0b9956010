use Rattle.std.proofs.Common.{◌≡◌, ◌+◌, ◌-◌, ◌*◌, length, take, drop, length-take, length-drop, refl, ap, arith}
use Rattle.luma_rows.proofs.Rows.{row_room, row-ended, of_slices}
use Rattle.luma_rows.proofs.Plain.{counted-one}
use Rattle.luma_rows.proofs.end_row.Goals as goal

pub overflow_mul-base : goal.overflow_mul-base
overflow_mul-base c =
    let p = c.requires in let a = c.args in
    omega (arith, row_room a.g a.s p.line)

pub keep-requires : goal.keep-requires
keep-requires c =
    let p = c.requires in let a = c.args in
    (omega arith, omega (arith, row_room a.g a.s p.line))

pub finish_row-requires : goal.finish_row-requires
finish_row-requires c =
    let p = c.requires in
    let a = c.args in
    record {
      some = p.fits.some;
      few = omega arith;
      room = omega arith;
      fits = omega (arith, row_room a.g a.s p.line);
    }

pub count_rows-requires : goal.count_rows-requires
count_rows-requires c =
    let p = c.requires in
    (p.fits, let l = p.line in omega arith)

pub compare_run-m-requires : goal.compare_run-m-requires
compare_run-m-requires c =
    let p = c.requires in
    let a = c.args in
    let room = row_room a.g a.s p.line in
    record {
      same = simp (length-take, length-drop) (omega arith);
      few = simp (length-take, length-drop) (omega arith);
    }

pub next_row-requires : goal.next_row-requires
next_row-requires c =
    let p = c.requires in
    (p.fits, let l = p.line in omega arith)

pub returns : goal.returns
returns c =
    let p = c.requires in
    let a = c.args in
    let w = a.g.columns in
    let b = a.s.line * w in
    let room = row_room a.g a.s p.line in
    let long : b + w - b ≡ w = omega arith in
    let pixels = c.finish_row.new.pixels in
    let size : length (take (b + w - b) (drop b pixels)) ≡ w = simp (length-take, length-drop) (omega arith) in
    row-ended a.g a.s p.fits p.line p.row p.col refl c.keep.ensures
    c.finish_row.ensures (counted-one (omega arith) c.count_rows.ensures)
    c.moves_in.ensures
    (of_slices 0 b w refl (ap (λ n. take n (drop b pixels)) long) size c.compare_run-m.ensures) _ c.next_row.ensures
