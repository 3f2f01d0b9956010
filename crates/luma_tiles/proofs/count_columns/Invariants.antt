-- The first i pixels of each of the three are counted.
use Rattle.std.proofs.Common.{take}
use Rattle.luma_tiles.specs.Bins.{Three}
use Rattle.luma_tiles.proofs.count_columns.Given as goal

abbrev pub invariant-loop-i : goal.invariant-loop-i
invariant-loop-i l =
    Three l.base l.t (take l.i l.first) (take l.i l.second) (take l.i l.third) l.initial.counts l.counts
