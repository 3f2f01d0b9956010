use Rattle.luma_blocks.specs.Pixels.{Finished}
use Rattle.luma_blocks.proofs.finish_row.Given as goal

abbrev pub invariant-loop-c : goal.invariant-loop-c
invariant-loop-c l = Finished l.area l.base l.c l.initial.pixels l.initial.sums l.pixels l.sums
