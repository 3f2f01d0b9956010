use Rattle.std.proofs.Common.{rules}
use Rattle.luma_sums.proofs.Laws.{total-sum}
use Rattle.luma_sums.proofs.total_of.Goals as goal

pub returns : goal.returns
returns c = rw (total-sum c.args.s.now) (search rules)
