-- The loop's invariant: the sum so far and that over the gaps that are left make the
-- sum over all 16.
use Prim.Native.Nat.{◌+◌, ◌-◌, ◌*◌, ◌^◌, ◌≤◌}
use mathlib.Core.Path.{◌≡◌}
use Rattle.rules.specs.Bytes.{total, table}
use Rattle.rules.specs.GapRuns.{gap_lost}
use Rattle.gap_runs.specs.Entries.{entry_at}
use Rattle.gap_runs.proofs.one_more.Given as goal

abbrev pub invariant-loop-g : goal.invariant-loop-g
invariant-loop-g l =
    (l.sum ≤ 2 ^ 56 * l.g)
    × (l.sum + total (table (16 - l.g) l.g (λ h. entry_at l.entries l.l (gap_lost h)))
    ≡ total (table 16 0 (λ h. entry_at l.entries l.l (gap_lost h))))
