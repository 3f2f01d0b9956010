-- `luma_scenes::repeated` meets its contract. The loop's invariant: those found and those still to come are all.
use Prim.Native.Nat.{◌-◌, ◌≤◌}
use Rattle.luma_scenes.proofs.Loops.{Counted}
use Rattle.luma_scenes.proofs.repeated.Given as goal

abbrev pub invariant-loop-k : goal.invariant-loop-k
invariant-loop-k l = (l.found ≤ l.k - l.i) × Counted l.luma l.i l.j l.found l.k
