-- `put_scenes` meets its contract. The loop's invariant: the rows before j are the record's, the others as they were.
use Rattle.record_rows.specs.Rows.{scene_row}
use Rattle.record_rows.proofs.Filling.{Laid}
use Rattle.record_rows.proofs.put_scenes.Given as goal

abbrev pub invariant-loop-j : goal.invariant-loop-j
invariant-loop-j l = Laid (scene_row l.bytes) l.scenes l.initial.rows l.rows l.j
