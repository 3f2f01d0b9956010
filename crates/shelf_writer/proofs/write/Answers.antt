-- `write` meets its contract: 27, 28, then 15, and the buffer stands; or the shelf. Assumes nothing.
use native.Mathlib.Omega.{arith}
use mathlib.Core.Path.{sym, ◌∙◌}
use lib.ListN.{length}
use Rattle.rules.proofs.Laws.Answers.{passed-on}
use Rattle.shelf_writer.specs.Writing.{shelf_length}
use Rattle.shelf_writer.proofs.Laws.{good, shelf-small}
use Rattle.shelf_writer.proofs.Steps.{size_is, not_good, all_read, record-refused, no_room_lem, wrote, stands, stored}
use Rattle.shelf_writer.proofs.write.Goals as goal

pub returns-then-not-good_lengths : goal.returns-then-not-good_lengths
returns-then-not-good_lengths c =
    let a = c.args in let s = a.records.now in
    let ls = a.lengths.now in let b = a.buffer.now in
    let e = not_good s ls (length b) (sym c.good_lengths.ensures ∙ c.if-not-good_lengths.true) in
    record { answered = e; written = stands s ls b _ e }

pub read_records-requires : goal.read_records-requires
read_records-requires c =
    let a = c.args in
    (good a.records.now a.lengths.now (sym c.good_lengths.ensures ∙ c.if-not-good_lengths.false)).1

pub overflow_add-size : goal.overflow_add-size
unfolding shelf_length
overflow_add-size c =
    let s = c.args.records.now in let ls = c.args.lengths.now in
    let g = good s ls (sym c.good_lengths.ensures ∙ c.if-not-good_lengths.false) in
    let small = shelf-small s ls g.0 g.1 (all_read s ls _ c.read_records.ensures c.in_ok-read_records.was) in
    omega (arith, small)

pub overflow_add-size-2 : goal.overflow_add-size-2
unfolding shelf_length
overflow_add-size-2 c =
    let s = c.args.records.now in let ls = c.args.lengths.now in
    let g = good s ls (sym c.good_lengths.ensures ∙ c.if-not-good_lengths.false) in
    let small = shelf-small s ls g.0 g.1 (all_read s ls _ c.read_records.ensures c.in_ok-read_records.was) in
    omega (arith, small, g.1)

pub returns-then-buffer-size : goal.returns-then-buffer-size
returns-then-buffer-size c =
    let a = c.args in let s = a.records.now in
    let ls = a.lengths.now in let b = a.buffer.now in
    let is = size_is s ls (good s ls (sym c.good_lengths.ensures ∙ c.if-not-good_lengths.false)).1 in
    let passed = sym c.good_lengths.ensures ∙ c.if-not-good_lengths.false in
    let e = no_room_lem s ls _ c.read_records.ensures passed (length b) c.in_ok-read_records.was _ is
    c.if-buffer-size.true in
    rw c.no_room.ensures (record { answered = e; written = stands s ls b _ e })

pub put_shelf-requires : goal.put_shelf-requires
put_shelf-requires c =
    let s = c.args.records.now in let ls = c.args.lengths.now in
    let g = good s ls (sym c.good_lengths.ensures ∙ c.if-not-good_lengths.false) in
    let small = shelf-small s ls g.0 g.1 (all_read s ls _ c.read_records.ensures c.in_ok-read_records.was) in
    let is = size_is s ls g.1 in
    record { size = (is, omega (arith, small), c.if-buffer-size.false); lengths_sum = g.1 }

pub returns : goal.returns
returns c =
    let a = c.args in
    let s = a.records.now in let ls = a.lengths.now in let b = a.buffer.now in
    let is = size_is s ls (good s ls (sym c.good_lengths.ensures ∙ c.if-not-good_lengths.false)).1 in
    let passed = sym c.good_lengths.ensures ∙ c.if-not-good_lengths.false in
    let e = wrote s ls _ c.read_records.ensures passed (length b) c.in_ok-read_records.was _ is
    c.if-buffer-size.false in
    record { answered = e; written = stored s ls b _ e c.put_shelf.ensures }

pub returns-in_err-read_records : goal.returns-in_err-read_records
returns-in_err-read_records c =
    let a = c.args in let s = a.records.now in let ls = a.lengths.now in let b = a.buffer.now in
    let good = sym c.good_lengths.ensures ∙ c.if-not-good_lengths.false in
    let passed = passed-on c.from_residual.result _ c.from_residual.ensures.1 in
    let e = record-refused s ls _ c.read_records.ensures good (length b) _ c.in_err-read_records.was in
    rw passed (record { answered = e; written = stands s ls b _ e })
