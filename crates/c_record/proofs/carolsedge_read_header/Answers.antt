-- `carolsedge_read_header` meets its contract, by the two cases of an answer. Assumes nothing.
use Rattle.c_record.proofs.Answers.{header-done, header-refused}
use Rattle.c_record.proofs.carolsedge_read_header.Goals as goal

pub returns-in-Ok : goal.returns-in-Ok
returns-in-Ok c = header-done _ _ _ c.header.ensures _ _ c.in-Ok.is c.put_header.ensures

pub returns-in-Err : goal.returns-in-Err
returns-in-Err c = header-refused _ _ _ c.header.ensures _ _ c.in-Err.is c.listed_number.ensures
