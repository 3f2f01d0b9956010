-- The first j bytes are put.
use Rattle.luma_rows.specs.Contract.{Puts}
use Rattle.luma_rows.proofs.put.Given as goal

abbrev pub invariant-loop-j : goal.invariant-loop-j
invariant-loop-j l = Puts l.base l.j l.rest l.initial.picture l.picture
