use Rattle.luma_rows.proofs.Plain.{rows-room, took-plain}
use Rattle.luma_rows.proofs.Rows.{at-row-end, within-row, to-row-end}
use Rattle.std.proofs.Common.{arith, rules}
use Rattle.luma_rows.proofs.draw.Goals as goal

pub overflow_mul-used : goal.overflow_mul-used
overflow_mul-used c =
    let at = c.plain_rows.ensures _ c.in-Some.is in
    let a = c.args in
    omega (arith, rows-room a.g a.s a.rest.now _ at)

pub take_plain-e-requires : goal.take_plain-e-requires
take_plain-e-requires c =
    c.plain_rows.ensures _ c.in-Some.is

pub returns-in-Some : goal.returns-in-Some
returns-in-Some c =
    let p = c.requires in
    took-plain _ _ p.0 (c.plain_rows.ensures _ c.in-Some.is)
    c.take_plain-e.ensures

pub feed_rows-p-requires : goal.feed_rows-p-requires
feed_rows-p-requires c =
    let p = c.requires in
    record {
      some = p.0.fits.some;
      few = omega arith;
      room = omega arith;
      wide = p.0.fits.most;
      above = p.0.sane.row p.1;
      left = p.0.sane.col p.1;
    }

pub end_row-e-requires : goal.end_row-e-requires
end_row-e-requires c = search (rules, at-row-end)

pub returns-then-p-g : goal.returns-then-p-g
returns-then-p-g c =
    let p = c.requires in let a = c.args in
    to-row-end a.g a.s p.0 p.1 (λ i. omega (arith, c.type_inv.rest i))
    c.feed_rows-p.ensures _ c.moved_to-t.ensures c.end_row-e.ensures

pub returns : goal.returns
returns c =
    let p = c.requires in let a = c.args in
    within-row a.g a.s p.0 p.1 (λ i. omega (arith, c.type_inv.rest i))
    c.feed_rows-p.ensures _ c.moved_to-t.ensures
    c.if-p-g.false
