use Prim.Native.Nat.{◌+◌, ◌*◌}
use native.Mathlib.Omega.{arith}
use mathlib.Core.Path.{◌≡◌, ◌∙◌}
use lib.Seq.{length-take-le}
use borrow.Author.Tests.{le-leb, lt-leb, lt-ltb}
use Rattle.rules.specs.Seal.{no_room}
use Rattle.rules.specs.GapRuns.{gap_fault, gap_answer, table_after}
use Rattle.gap_runs.proofs.Filling.{holds-start, holds-small, holds_more, done-answer, done-entries}
use Rattle.gap_runs.proofs.gap_table.Goals as goal

pub returns-then-n-gt15 : goal.returns-then-n-gt15
unfolding gap_answer gap_fault table_after
returns-then-n-gt15 c =
    let many = lt-leb _ 15 c.if-n-gt15.true in record { answer = simp many; entries = simp many }

pub returns-then-table-size : goal.returns-then-table-size
unfolding gap_answer gap_fault table_after no_room
returns-then-table-size c =
    let few = le-leb _ 15 c.if-n-gt15.false in
    let short = lt-ltb _ _ c.if-table-size.true in
    rw c.no_room.ensures (record { answer = simp (few, short); entries = simp (few, short) })

pub start-requires : goal.start-requires
start-requires c = rw (length-take-le (14 * c.args.n + 1) c.args.table.now (omega arith)) (omega arith)

pub loop-init : goal.loop-init
loop-init c =
    rw (c.start.ensures, length-take-le (14 * c.args.n + 1) c.args.table.now (omega arith))
    (holds-start (14 * c.args.n + 1) (omega arith))

pub grow-requires : goal.grow-requires
grow-requires c = rw c.loop.invariant (holds-small c.loop.counter (14 * c.args.n + 1) (omega arith))

pub loop-preserved : goal.loop-preserved
loop-preserved c = c.grow.ensures ∙ rw c.loop.invariant (holds_more c.loop.counter (14 * c.args.n + 1))

pub returns : goal.returns
returns c =
    let from = c.args in
    let end : c.loop.counter ≡ from.n = omega arith in
    record {
      answer = done-answer from.n from.table.now (omega arith) (omega arith);
      entries = rw (c.loop.invariant, end) (done-entries from.n from.table.now (omega arith) (omega arith));
    }
