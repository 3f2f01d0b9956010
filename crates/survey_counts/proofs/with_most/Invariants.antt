-- `with_most` meets its contract: before identifier i, the best has most of those below i.
use Rattle.rules.specs.Survey.{HasMost}
use Rattle.survey_counts.specs.Table.{count_in}
use Rattle.survey_counts.proofs.with_most.Given as goal

abbrev pub invariant-loop-i : goal.invariant-loop-i
invariant-loop-i l = HasMost (count_in l.counts) l.i l.best
