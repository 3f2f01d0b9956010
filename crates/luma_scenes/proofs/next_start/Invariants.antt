-- `luma_scenes::next_start` meets its contract. The loop's invariant: no start before picture i, and the sum of the
-- scores since b.
use Prim.Native.Nat.{◌*◌, ◌≤◌}
use Rattle.luma_scenes.proofs.Loops.{Seeks}
use Rattle.luma_scenes.proofs.next_start.Given as goal

abbrev pub invariant-loop-i : goal.invariant-loop-i
invariant-loop-i l = (l.sum ≤ 4294967296 * l.i) × Seeks l.luma l.n l.d l.b l.sum l.i
