-- `luma_scenes::longest` meets its contract. The loop's invariant: the longest run so far, and the longest from here
-- on, with the run that ends here, have the longest of all.
use Prim.Native.Nat.{◌-◌, ◌≤◌}
use Rattle.luma_scenes.proofs.Loops.{Longest}
use Rattle.luma_scenes.proofs.longest.Given as goal

abbrev pub invariant-loop-k : goal.invariant-loop-k
invariant-loop-k l =
    (l.run ≤ l.most) × (l.most ≤ l.k - l.i) × Longest l.luma l.i l.j l.most l.run l.k
