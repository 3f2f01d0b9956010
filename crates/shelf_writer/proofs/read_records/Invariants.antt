-- `read_records` meets its contract. The loop's invariant: where the next record starts, and the first that is refused
-- of all is that of the records which are left. Assumes nothing.
use mathlib.Core.Path.{◌≡◌}
use lib.ListN.{take, drop}
use Rattle.rules.specs.Bytes.{total}
use Rattle.rules.specs.Shelf.{first_refused}
use Rattle.shelf_writer.specs.Writing.{cut_up}
use Rattle.shelf_writer.proofs.read_records.Given as goal

abbrev pub invariant-loop-j : goal.invariant-loop-j
invariant-loop-j l =
    (l.start ≡ total (take l.j l.lengths))
    × (first_refused 0 (cut_up l.records l.lengths)
    ≡ first_refused l.j (cut_up (drop l.start l.records) (drop l.j l.lengths)))
