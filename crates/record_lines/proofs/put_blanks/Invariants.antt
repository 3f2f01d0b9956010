-- `put_blanks` meets its contract. The invariant: so many lines are put. Assumes nothing.
use Prim.Native.Nat.{ℕ, ◌*◌}
use Rattle.record_lines.specs.Put.{Put, lines_to}
use Rattle.rules.specs.Sheet.{blank_line}
use Rattle.record_lines.proofs.put_blanks.Given as goal

abbrev pub invariant-loop : goal.invariant-loop
invariant-loop l =
    Put l.at (101 * l.counter) (lines_to l.counter (λ (i : ℕ). blank_line)) l.initial.buffer l.end l.buffer
