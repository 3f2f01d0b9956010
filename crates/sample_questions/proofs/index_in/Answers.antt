-- `index_in` meets its contract: each count is handed on below 2 ^ 32.
use Rattle.sample_questions.proofs.Taken.{index-by}
use Rattle.sample_questions.proofs.index_in.Goals as goal

pub returns : goal.returns
returns c =
    index-by c.low.ensures c.low-2.ensures c.low-3.ensures c.low-4.ensures c.index_from.ensures
