use native.Mathlib.Omega.{arith}
use Prim.Native.Nat.{ℕ}
use Rattle.rules.specs.Sheet.{blank_line}
use Rattle.record_lines.proofs.Puts.{no_lines, line-more}
use Rattle.record_lines.proofs.put_blanks.Goals as goal

pub loop-init : goal.loop-init
loop-init c = no_lines (λ (i : ℕ). blank_line) c.args.at c.args.buffer.now

pub loop-preserved : goal.loop-preserved
unfolding blank_line
loop-preserved c =
    line-more (λ (i : ℕ). blank_line) c.loop.counter (omega arith) c.loop.invariant c.end_line-end.ensures
