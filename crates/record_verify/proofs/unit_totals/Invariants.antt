-- `unit_totals` meets its contract. The loop's invariant: each sum so far and that of the rows which are left make the
-- whole, and each row added a 32-bit word. Assumes nothing.
use Prim.Native.Nat.{ℕ, ◌+◌, ◌*◌, ◌≤◌}
use mathlib.Core.Path.{◌≡◌}
use Rattle.rules.specs.Reading.{unit_at}
use Rattle.record_verify.specs.Totals.{packets_total, lost_total, damaged_total}
use Rattle.record_verify.proofs.Sums.{Left}
use Rattle.record_verify.proofs.unit_totals.Given as goal

abbrev pub invariant-loop-j : goal.invariant-loop-j
invariant-loop-j l =
    (l.totals.packets ≤ 4294967295 * l.j) × (l.totals.lost ≤ 4294967295 * l.j) × (l.totals.damaged ≤ 4294967295 * l.j)
    × (l.totals.packets + Left (λ (k : ℕ). (unit_at l.bytes k).packets) l.fn.counts.units l.j ≡ packets_total l.bytes)
    × (l.totals.lost + Left (λ (k : ℕ). (unit_at l.bytes k).lost) l.fn.counts.units l.j ≡ lost_total l.bytes)
    × (l.totals.damaged + Left (λ (k : ℕ). (unit_at l.bytes k).damaged) l.fn.counts.units l.j ≡ damaged_total l.bytes)
