use Rattle.std.proofs.Common.{drop}
use Rattle.capture_steps.specs.Format.{cells_from}
use Rattle.capture_counts.proofs.Laws.{Going}
use Rattle.capture_counts.proofs.add_run.Given as goal

abbrev pub invariant-loop-k : goal.invariant-loop-k
invariant-loop-k l = Going l.initial.table l.initial.t (cells_from l.k l.r.time l.r.place (drop l.r.at l.piece)) l.table l.t
