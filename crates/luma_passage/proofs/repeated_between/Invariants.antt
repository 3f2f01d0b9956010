-- `repeated_between` meets its contract. The loop's invariant: those found and those still to come are all.
use Prim.Native.Nat.{◌+◌, ◌-◌, ◌*◌, ◌≤◌, min, max}
use Rattle.luma_passage.proofs.Laws.{Counted}
use Rattle.luma_passage.proofs.repeated_between.Given as goal

abbrev pub invariant-loop-j : goal.invariant-loop-j
invariant-loop-j l =
    let at = min l.b (max l.a (64 * l.j)) in
    (l.found + (l.b - at) ≤ l.b - l.a) × Counted l.luma l.a l.b l.found at
