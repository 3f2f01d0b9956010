-- The four sums, added to m, are the figures of the pixels so far.
use Rattle.std.proofs.Common.{◌*◌, ◌≤◌, length}
use Rattle.luma_changes.proofs.Laws.{Sums}
use Rattle.luma_changes.proofs.sums.compare_run.Given as goal

abbrev pub invariant-loop-a : goal.invariant-loop-a
invariant-loop-a l =
    record {
      few : length l.yielded ≤ length l.made;
      up_few : l.up ≤ 255 * length l.yielded;
      down_few : l.down ≤ 255 * length l.yielded;
      high_few : l.high ≤ 255 * length l.yielded;
      sums : Sums l.kept 0 l.made 0 (length l.yielded) l.m l.up l.down l.all l.high;
    }
