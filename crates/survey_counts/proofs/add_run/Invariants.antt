-- `add_run` meets its contract: cell by cell.
use Rattle.std.proofs.Common.{drop}
use Rattle.capture_steps.specs.Format.{cells_from}
use Rattle.survey_counts.specs.Table.{Tallied}
use Rattle.survey_counts.proofs.add_run.Given as goal

abbrev pub invariant-loop-k : goal.invariant-loop-k
invariant-loop-k l = Tallied l.initial.counts (cells_from l.k l.r.time l.r.place (drop l.r.at l.piece)) l.counts
