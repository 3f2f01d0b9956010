use Rattle.survey_counts.proofs.Counts.{run_none, run_more}
use Rattle.survey_counts.proofs.add_run.Goals as goal

pub loop-k-init : goal.loop-k-init
loop-k-init c = run_none _ _ _ _

pub loop-k-preserved : goal.loop-k-preserved
loop-k-preserved c = run_more _ _ _ _ c.loop-k.invariant c.cell.ensures.0 c.add.ensures
