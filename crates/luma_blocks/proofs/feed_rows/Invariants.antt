use Prim.Native.Nat.{◌-◌}
use lib.ListN.{length}
use Rattle.luma_blocks.specs.Rows.{Going}
use Rattle.luma_blocks.proofs.feed_rows.Given as goal

abbrev pub invariant-loop-p : goal.invariant-loop-p
invariant-loop-p l = Going l.shape.width l.shape.side l.shape.columns l.row l.col l.piece l.initial.sums l.p l.sums

abbrev pub decreases-loop-p : goal.decreases-loop-p
decreases-loop-p l = length l.piece - l.p.used
