use Rattle.std.proofs.Common.{refl}
use Rattle.luma_sums.proofs.Runs.{added-past, part_in}
use Rattle.luma_sums.proofs.part.Goals as goal

pub returns-then-c-w : goal.returns-then-c-w
returns-then-c-w c =
    let p = c.requires in
    part_in c.args.bytes.now c.if-c-w.true p.0 (rw c.total_of.ensures refl)

pub returns-else-c-w : goal.returns-else-c-w
returns-else-c-w c n q p lo hi = added-past n _ q c.args.c _ _ p lo c.if-c-w.false
