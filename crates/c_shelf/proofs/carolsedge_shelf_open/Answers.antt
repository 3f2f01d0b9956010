-- By the two cases of an answer.
use Rattle.c_shelf.proofs.Answers.{shelf-done, shelf-refused}
use Rattle.c_shelf.proofs.carolsedge_shelf_open.Goals as goal

pub returns-in-Ok : goal.returns-in-Ok
returns-in-Ok c = shelf-done _ _ _ c.«open».ensures _ c.in-Ok.is

pub returns-in-Err : goal.returns-in-Err
returns-in-Err c = shelf-refused _ _ _ c.«open».ensures _ _ c.in-Err.is c.listed_number.ensures
