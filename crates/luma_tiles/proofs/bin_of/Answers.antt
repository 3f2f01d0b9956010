use Rattle.std.proofs.Common.{rules}
use Rattle.rules.specs.Histograms.{bin}
use Rattle.luma_tiles.proofs.bin_of.Goals as goal

pub returns : goal.returns
unfolding bin
returns c = search rules
