use native.Mathlib.Omega.{arith}
use mathlib.Core.Path.{refl}
use Rattle.shelf_writer.proofs.Laws.{total-more}
use Rattle.shelf_writer.proofs.Steps.{no-sum, cut-start, cut_inside, cut-more, cut-stop, cut-end}
use Rattle.shelf_writer.proofs.read_records.Goals as goal

pub loop-j-init : goal.loop-j-init
loop-j-init c =
    let a = c.args in
    (no-sum a.lengths.now, cut-start a.records.now a.lengths.now)

pub overflow_add-end : goal.overflow_add-end
overflow_add-end c =
    let within =
    cut_inside c.args.records.now c.args.lengths.now c.requires c.loop-j.start c.loop-j.j c.loop-j-test.true
    c.loop-j.invariant.0 in
    omega (arith, within)

pub slice_bounds-open-count : goal.slice_bounds-open-count
slice_bounds-open-count c =
    let within =
    cut_inside c.args.records.now c.args.lengths.now c.requires c.loop-j.start c.loop-j.j c.loop-j-test.true
    c.loop-j.invariant.0 in
    omega (arith, within)

pub slice_bounds-open-start : goal.slice_bounds-open-start
slice_bounds-open-start c =
    let within =
    cut_inside c.args.records.now c.args.lengths.now c.requires c.loop-j.start c.loop-j.j c.loop-j-test.true
    c.loop-j.invariant.0 in
    omega (arith, within)

pub slice_bounds-open-end : goal.slice_bounds-open-end
slice_bounds-open-end c =
    let within =
    cut_inside c.args.records.now c.args.lengths.now c.requires c.loop-j.start c.loop-j.j c.loop-j-test.true
    c.loop-j.invariant.0 in
    omega (arith, within)

pub returns-then-is_err : goal.returns-then-is_err
returns-then-is_err c =
    let a = c.args in
    rw (
      c.refused_record.ensures,
      cut-stop a.records.now a.lengths.now c.loop-j.start c.loop-j.j c.loop-j-test.true _
          c.loop-j.invariant.1 _ refl _ c.«open».ensures _ c.is_err.ensures.value c.if-is_err.true,
    )

pub loop-j-preserved : goal.loop-j-preserved
loop-j-preserved c =
    let a = c.args in (
      omega (arith, total-more a.lengths.now c.loop-j.j c.loop-j-test.true),
      cut-more a.records.now a.lengths.now c.loop-j.start c.loop-j.j c.loop-j-test.true _
          c.loop-j.invariant.1 _ refl _ c.«open».ensures _ c.is_err.ensures.value c.if-is_err.false,
    )

pub returns : goal.returns
returns c =
    let a = c.args in
    rw (cut-end a.records.now a.lengths.now c.loop-j.start c.loop-j.j _ c.loop-j-test.false
    c.loop-j.invariant.1)
