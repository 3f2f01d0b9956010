-- `read_records` meets its contract. The loop's invariant: the sum so far and that of the records which are left make
-- the whole, and the first that is refused of all is that of the records which are left. Assumes nothing.
use Prim.Native.Nat.{ℕ, ◌+◌, ◌-◌}
use mathlib.Core.Path.{◌≡◌}
use Rattle.rules.specs.Shelf.{part, records as all_records, record_lost, shelf_lost, first_refused}
use Rattle.rules.specs.Bytes.{total, table}
use Rattle.shelf.proofs.read_records.Given as goal

abbrev pub invariant-loop-j : goal.invariant-loop-j
invariant-loop-j l =
    (l.lost + total (table (l.records - l.j) l.j (λ (k : ℕ). record_lost (part l.bytes k))) ≡ shelf_lost l.bytes)
    × (first_refused 0 (all_records l.bytes) ≡ first_refused l.j (table (l.records - l.j) l.j (part l.bytes)))
