-- `carolsedge_read_scene` meets its contract, by the two cases of an answer. Assumes nothing.
use Rattle.c_record.proofs.Answers.{scene-done, scene-refused}
use Rattle.c_record.proofs.carolsedge_read_scene.Goals as goal

pub returns-in-Ok : goal.returns-in-Ok
returns-in-Ok c = scene-done _ _ _ _ c.scene.ensures _ _ c.in-Ok.is c.scene_figures.ensures

pub returns-in-Err : goal.returns-in-Err
returns-in-Err c = scene-refused _ _ _ _ c.scene.ensures _ _ c.in-Err.is c.listed_number.ensures
