-- By the two cases of an answer.
use Rattle.c_shelf.proofs.Answers.{part-done, part-refused}
use Rattle.c_shelf.proofs.carolsedge_shelf_part.Goals as goal

pub returns-in-Ok : goal.returns-in-Ok
returns-in-Ok c = part-done _ _ _ _ c.part.ensures _ c.in-Ok.is

pub returns-in-Err : goal.returns-in-Err
returns-in-Err c = part-refused _ _ _ _ c.part.ensures _ _ c.in-Err.is c.listed_number.ensures
