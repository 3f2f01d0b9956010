-- `argument` meets its contract. The loop's invariant: the digits so far are n, and the rest decides.
use Rattle.luma_busiest.proofs.Laws.Digits.{Read}
use Rattle.luma_busiest.proofs.argument.Given as goal

abbrev pub invariant-loop-digit : goal.invariant-loop-digit
invariant-loop-digit l = Read l.word l.n l.digit-index
