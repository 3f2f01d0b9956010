-- `put_offsets` meets its contract. The loop's invariant: the offsets of the records passed are put, and where the
-- next one starts. Assumes nothing.
use Prim.Native.Nat.{◌+◌}
use mathlib.Core.Path.{◌≡◌}
use lib.ListN.{length, take}
use Rattle.rules.specs.Bytes.{total}
use Rattle.rules.specs.Shelf.{head_length}
use Rattle.words.specs.Written.{written}
use Rattle.shelf_writer.proofs.Steps.{words_to, offsets}
use Rattle.shelf_writer.proofs.put_offsets.Given as goal

abbrev pub invariant-loop-j : goal.invariant-loop-j
invariant-loop-j l =
    (length l.buffer ≡ length l.initial.buffer)
    × (l.start ≡ head_length (length l.lengths) + total (take l.j l.lengths))
    × (l.buffer ≡ written 8 (words_to l.j (offsets l.lengths)) l.initial.buffer)
