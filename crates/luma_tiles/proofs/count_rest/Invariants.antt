use Rattle.std.proofs.Common.{take}
use Rattle.luma_tiles.specs.Bins.{Grown, in_tile}
use Rattle.luma_tiles.proofs.count_rest.Given as goal

abbrev pub invariant-loop-v : goal.invariant-loop-v
invariant-loop-v l = Grown l.base (in_tile l.t (take l.v-index l.pixels)) l.initial.counts l.counts
