use Prim.Native.Nat.{◌+◌}
use native.Mathlib.Omega.{arith}
use mathlib.Core.Path.{refl}
use borrow.Author.Rules.{rules}
use Rattle.shelf_writer.specs.Writing.{shelf_length}
use Rattle.shelf_writer.proofs.Laws.{total-more, total-part}
use Rattle.shelf_writer.proofs.Steps.{no-sum, no_words, word_more, all_words}
use Rattle.shelf_writer.proofs.put_offsets.Goals as goal

pub loop-j-init : goal.loop-j-init
loop-j-init c =
    let a = c.args in
    (refl, omega (arith, no-sum a.lengths.now), no_words a.lengths.now a.buffer.now)

pub overflow_cast-start : goal.overflow_cast-start
unfolding shelf_length
overflow_cast-start c = omega (arith, total-part c.args.lengths.now c.loop-j.j)

pub overflow_add-start-in-loop-j : goal.overflow_add-start-in-loop-j
unfolding shelf_length
overflow_add-start-in-loop-j c =
    omega (
      arith,
      total-more c.args.lengths.now c.loop-j.j c.loop-j-test.true,
      total-part c.args.lengths.now (c.loop-j.j + 1),
    )

pub loop-j-preserved : goal.loop-j-preserved
loop-j-preserved c =
    let ls = c.args.lengths.now in (
      omega arith,
      omega (arith, total-more ls c.loop-j.j c.loop-j-test.true),
      word_more ls c.args.buffer.now c.loop-j.j c.requires.room c.loop-j.invariant.2 c.loop-j.start
          c.loop-j.invariant.1 c.loop-j-test.true c.put32.ensures,
    )

pub returns : goal.returns
returns c = search (rules, all_words)
