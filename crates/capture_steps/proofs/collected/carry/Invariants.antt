-- The first j bytes of the part stand at their places; all before these are as they were.
use Rattle.std.proofs.Common.{◌≡◌, ℕ, ◌+◌, ◌<◌, length, get_or}
use Rattle.capture_steps.proofs.collected.carry.Given as goal

abbrev pub invariant-loop-j : goal.invariant-loop-j
invariant-loop-j l =
    record {
      size : length l.kept ≡ length l.initial.kept;
      new : (i : ℕ) → i < l.j → get_or l.kept (l.at + i) 0 ≡ get_or l.part i 0;
      below : (k : ℕ) → k < l.at → get_or l.kept k 0 ≡ get_or l.initial.kept k 0;
    }
