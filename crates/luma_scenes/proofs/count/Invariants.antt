-- `luma_scenes::count` meets its contract. The loop's invariant: the scenes counted and those from the start b on are
-- all. The measure is the pictures that are left.
use Prim.Native.Nat.{◌-◌, ◌≤◌}
use Rattle.luma_scenes.proofs.Loops.{Tallied}
use Rattle.luma_scenes.proofs.count.Given as goal

abbrev pub invariant-loop-b : goal.invariant-loop-b
invariant-loop-b l = (l.scenes ≤ l.b) × (l.b ≤ l.n) × Tallied l.luma l.n l.d l.scenes l.b

abbrev pub decreases-loop-b : goal.decreases-loop-b
decreases-loop-b l = l.n - l.b
