use native.Mathlib.Omega.{arith}
use mathlib.Core.Path.{sym, ◌∙◌}
use lib.Seq.{take-append-le, length-take-le}
use lib.ListN.{length, drop, length-take, length-append}
use borrow.Author.Rules.{rules}
use Rattle.rtp_units.specs.Units.{told}
use Rattle.rtp.proofs.Answers.{good-lists, as-told}
use Rattle.rtp_order.proofs.Stayed.{stayed}
use Rattle.rtp.proofs.read_good.Goals as goal

pub slice_bounds-put_in_order-end : goal.slice_bounds-put_in_order-end
slice_bounds-put_in_order-end c =
    let a = c.args in
    let g = good-lists a.sequence.now (told a.lists.now) c.requires.good_lists in
    omega (arith, g.few)

pub slice_bounds-put_in_order-end-2 : goal.slice_bounds-put_in_order-end-2
slice_bounds-put_in_order-end-2 c =
    let a = c.args in
    let g = good-lists a.sequence.now (told a.lists.now) c.requires.good_lists in
    sym (length-take-le (length a.sequence.now) a.rows.now (omega (arith, g.few)))

pub put_in_order-kept-requires : goal.put_in_order-kept-requires
put_in_order-kept-requires c =
    let a = c.args in
    let g = good-lists a.sequence.now (told a.lists.now) c.requires.good_lists in
    let n = length a.sequence.now in
    record {
      row_count = (g.some, g.few);
      as_many = length-take-le n a.rows.now (omega (arith, g.few));
    }

pub slice_bounds-put_units-end : goal.slice_bounds-put_units-end
slice_bounds-put_units-end c = simp length-append (omega (arith, c.put_in_order-kept.ensures.few))

pub slice_bounds-put_units-end-2 : goal.slice_bounds-put_units-end-2
slice_bounds-put_units-end-2 c =
    let o = c.put_in_order-kept in
    sym (length-take-le o.result _ (simp length-append (omega (arith, o.ensures.few))))

pub put_units-requires : goal.put_units-requires
put_units-requires c =
    let a = c.args in
    let g = good-lists a.sequence.now (told a.lists.now) c.requires.good_lists in
    let n = length a.sequence.now in
    let o = c.put_in_order-kept in
    let front = take-append-le o.result o.new.rows (drop n a.rows.now) o.ensures.few ∙ o.ensures.front in
    record {
      stayed = (
        simp length-take (omega (
          arith,
          g.few,
          o.ensures.few,
          o.auto.rows,
          length-take-le n a.rows.now (omega (arith, g.few, c.requires.room)),
        )),
        rw (g.marker, front) (stayed a.sequence.now g.few (c.type_inv.sequence 0).fits),
      );
    }

pub returns : goal.returns
returns c =
    let o = c.put_in_order-kept in
    let front = take-append-le o.result o.new.rows (drop (length c.args.sequence.now) c.args.rows.now) o.ensures.few
    ∙ o.ensures.front in
    search (rules, as-told, front)
