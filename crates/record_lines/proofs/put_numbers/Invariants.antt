-- `put_numbers` meets its contract. The invariant: the first i numbers are put. Assumes nothing.
use Prim.Native.Nat.{◌*◌}
use lib.ListN.{take}
use Rattle.record_lines.specs.Put.{Put}
use Rattle.rules.specs.Sheet.{columns}
use Rattle.record_lines.proofs.put_numbers.Given as goal

abbrev pub invariant-loop-n : goal.invariant-loop-n
invariant-loop-n l =
    Put l.at (l.width * l.n-index) (columns l.width (take l.n-index l.numbers)) l.initial.buffer l.end l.buffer
