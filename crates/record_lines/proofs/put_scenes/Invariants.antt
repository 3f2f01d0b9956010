-- `put_scenes` meets its contract. The invariant: the first j lines are put. Assumes nothing.
use Prim.Native.Nat.{ℕ, ◌*◌}
use Rattle.record_lines.specs.Put.{Put, lines_to}
use Rattle.rules.specs.Reading.{scene_at}
use Rattle.rules.specs.Sheet.{scene_line}
use Rattle.record_lines.proofs.put_scenes.Given as goal

abbrev pub invariant-loop-j : goal.invariant-loop-j
invariant-loop-j l =
    Put l.at (101 * l.j)
    (lines_to l.j (λ (i : ℕ). scene_line i (scene_at (l.bytes) i))) l.initial.buffer l.end l.buffer
