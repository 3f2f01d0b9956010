-- `carolsedge_read_unit` meets its contract, by the two cases of an answer. Assumes nothing.
use Rattle.c_record.proofs.Answers.{unit-done, unit-refused}
use Rattle.c_record.proofs.carolsedge_read_unit.Goals as goal

pub returns-in-Ok : goal.returns-in-Ok
returns-in-Ok c = unit-done _ _ _ _ c.unit.ensures _ _ c.in-Ok.is c.unit_figures.ensures

pub returns-in-Err : goal.returns-in-Err
returns-in-Err c = unit-refused _ _ _ _ c.unit.ensures _ _ c.in-Err.is c.listed_number.ensures
