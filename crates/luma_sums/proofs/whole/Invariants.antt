-- j blocks of each row are added, and of the block at hand those of the first rows.
use Rattle.std.proofs.Common.{take, get_or, ◌≡◌, ◌+◌, ◌*◌, ◌%◌, ◌^◌}
use Rattle.luma_sums.specs.Sums.{Blocks}
use Rattle.luma_sums.proofs.Runs.{totals}
use Rattle.luma_sums.proofs.whole.Given as goal

abbrev pub invariant-loop-place : goal.invariant-loop-place
invariant-loop-place g l =
    l.sum % 2 ^ 32 ≡ (get_or l.sums (l.c + l.j) 0 + totals l.s (l.j * l.n) l.n (take l.place-index l.at)) % 2 ^ 32

abbrev pub invariant-loop-j : goal.invariant-loop-j
invariant-loop-j g l = Blocks l.n l.c l.j l.s l.at l.initial.sums l.sums
