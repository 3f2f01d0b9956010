-- `put_answer` meets its contract, by the two cases of an answer.
use Rattle.program_text.specs.Text.{answer_text}
use Rattle.program_text.proofs.put_answer.Goals as goal

pub returns-in-Ok : goal.returns-in-Ok
unfolding answer_text
returns-in-Ok c = rw c.in-Ok.is c.put_line.ensures

pub returns-in-Err : goal.returns-in-Err
unfolding answer_text
returns-in-Err c = rw c.in-Err.is c.put_line-in-Err.ensures
