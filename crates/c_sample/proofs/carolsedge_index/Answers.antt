-- By the two cases of an answer.
use Rattle.c_sample.proofs.Answers.{index-given, index-refused}
use Rattle.c_sample.proofs.carolsedge_index.Goals as goal

pub returns-in-Ok : goal.returns-in-Ok
returns-in-Ok c = index-given _ _ _ _ c.index.ensures _ _ c.in-Ok.is c.put_three.ensures

pub returns-in-Err : goal.returns-in-Err
returns-in-Err c = index-refused _ _ _ _ c.index.ensures _ _ c.in-Err.is c.listed_number.ensures
