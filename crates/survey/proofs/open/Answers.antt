-- `open` meets its contract: a fresh walk and a table of zeros. Assumes nothing.
use Rattle.survey_counts.proofs.Counts.{zeros}
use Rattle.survey.proofs.Steps.{opens}
use borrow.Author.Rules.{rules}
use Rattle.survey.proofs.open.Goals as goal

pub returns : goal.returns
returns c = search (rules, opens, zeros)
