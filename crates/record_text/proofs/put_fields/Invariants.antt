use mathlib.Core.Path.{◌≡◌}
use Prim.Native.Nat.{◌+◌, ◌*◌, ◌≤◌}
use lib.ListN.{length, take}
use Rattle.record_text.specs.Lines.{fields}
use Rattle.words.specs.Written.{written}
use Rattle.record_text.proofs.put_fields.Given as goal

abbrev pub invariant-loop-n : goal.invariant-loop-n
invariant-loop-n l =
    (l.end ≡ l.at + length (fields (take l.n-index l.numbers)))
    × (l.end ≤ l.at + 21 * l.n-index) × (length l.buffer ≡ length l.initial.buffer)
    × (l.buffer ≡ written l.at (fields (take l.n-index l.numbers)) l.initial.buffer)
