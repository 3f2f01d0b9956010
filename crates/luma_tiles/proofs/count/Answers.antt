use Rattle.luma_tiles.proofs.Laws.{counted}
use Rattle.std.proofs.Common.{rules}
use Rattle.luma_tiles.proofs.count.Goals as goal

pub returns : goal.returns
returns c = search (rules, counted)
