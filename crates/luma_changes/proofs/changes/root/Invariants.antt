-- `root` meets its contract. The loop's invariant: `low` fits, `high` does not, and `high` is 51,001 at most.
use Rattle.std.proofs.Common.{◌-◌, ◌*◌, ◌<◌, ◌≤◌}
use Rattle.luma_changes.proofs.changes.root.Given as goal

abbrev pub invariant-loop-low : goal.invariant-loop-low
invariant-loop-low l =
    (l.low < l.high) × (l.high ≤ 51001) × (l.low * l.low * l.n * l.n ≤ l.target)
    × (l.target < l.high * l.high * l.n * l.n)

abbrev pub decreases-loop-low : goal.decreases-loop-low
decreases-loop-low l = l.high - l.low
