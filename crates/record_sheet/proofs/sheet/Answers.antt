-- `sheet` meets its contract. Assumes nothing.
use native.Mathlib.Omega.{arith}
use lib.ListN.{length}
use Rattle.rules.proofs.Laws.Answers.{passed-on}
use Rattle.record_reader.proofs.Answers.{accepted, refused-as}
use Rattle.record_sheet.proofs.Answers.{whole-pages, needed, refused-answer, short-answer, done-answer}
use Rattle.record_sheet.proofs.Answers.{refused-buffer, done-buffer}
use Rattle.record_sheet.proofs.sheet.Goals as goal

pub overflow_add-counts : goal.overflow_add-counts
overflow_add-counts c =
    let a = accepted _ _ c.«open».ensures _ _ c.in_ok-counts.was in
    omega arith

pub overflow_add-counts-2 : goal.overflow_add-counts-2
overflow_add-counts-2 c =
    let a = accepted _ _ c.«open».ensures _ _ c.in_ok-counts.was in
    omega arith

pub overflow_mul-needed : goal.overflow_mul-needed
overflow_mul-needed c =
    let a = accepted _ _ c.«open».ensures _ _ c.in_ok-counts.was in
    omega arith

pub returns-then-buffer-needed : goal.returns-then-buffer-needed
returns-then-buffer-needed c =
    let r = c.args.bytes.now in
    let a = accepted r _ c.«open».ensures _ _ c.in_ok-counts.was in
    let b = c.args.buffer.now in
    let p = whole-pages _ _ c.div_ceil-needed.ensures in
    let e = rw p at (short-answer r (length b) _ _ a (rw p c.if-buffer-needed.true)) in
    rw c.no_room.ensures (record { answered = e; printed = refused-buffer r b _ e; fits = tt })

pub put_sheet-requires : goal.put_sheet-requires
put_sheet-requires c =
    let r = c.args.bytes.now in
    let a = accepted r _ c.«open».ensures _ _ c.in_ok-counts.was in
    let b = c.args.buffer.now in
    let n = needed r (length b) _ _ a in
    let p = whole-pages _ _ c.div_ceil-needed.ensures in
    record {
      as_many = (a.units, a.scenes);
      rows_there = (a.units_less, a.scenes_less, omega arith);
      room = omega arith;
    }

pub returns : goal.returns
returns c =
    let r = c.args.bytes.now in
    let a = accepted r _ c.«open».ensures _ _ c.in_ok-counts.was in
    let b = c.args.buffer.now in
    let p = whole-pages _ _ c.div_ceil-needed.ensures in
    let e = rw p at (done-answer r (length b) _ _ a (rw p c.if-buffer-needed.false)) in
    record {
      answered = e;
      printed = done-buffer r b _ _ e c.put_sheet.ensures;
      fits = omega (arith, c.put_sheet.auto.buffer);
    }

pub returns-in_err-counts : goal.returns-in_err-counts
returns-in_err-counts c =
    let r = c.args.bytes.now in
    let b = c.args.buffer.now in
    let passed = passed-on c.from_residual.result _ c.from_residual.ensures.1 in
    let e = refused-answer r (length b) _ (refused-as r _ c.«open».ensures _ c.in_err-counts.was) in
    rw passed (record { answered = e; printed = refused-buffer r b _ e; fits = tt })
