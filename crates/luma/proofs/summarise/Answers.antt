use Rattle.luma.proofs.Seals.{summarised}
use Rattle.std.proofs.Common.{rules}
use Rattle.luma.proofs.summarise.Goals as goal

pub returns : goal.returns
returns c = search (rules, summarised)
