-- `length_marks` meets its contract: the last scene may be short. Assumes nothing.
use Prim.Native.Nat.{◌+◌}
use native.Mathlib.Omega.{arith}
use borrow.Author.Tests.{lt-ltb, le-ltb}
use Rattle.figures.proofs.Products.{product}
use Rattle.record_verify.specs.Marks.{length_checks}
use Rattle.record_verify.proofs.Answers.{none-fails}
use Rattle.record_verify.proofs.length_marks.Goals as goal

pub returns-then-h-row : goal.returns-then-h-row
unfolding length_checks
returns-then-h-row c =
    let a = c.args in
    rw (le-ltb (a.row + 1) a.h.scenes c.if-h-row.true) none-fails

pub overflow_mul-time : goal.overflow_mul-time
overflow_mul-time c = product (omega arith) (omega arith)

pub returns : goal.returns
unfolding length_checks
returns c =
    let a = c.args in
    rw (lt-ltb (a.row + 1) a.h.scenes c.if-h-row.false) c.at_least.ensures
