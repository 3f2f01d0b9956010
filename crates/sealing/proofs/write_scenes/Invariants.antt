-- `write_scenes` meets its contract. The loop's invariant: the rows of the scenes before j are written, and scene j,
-- if there is one, starts at `start`.
use Rattle.sealing.proofs.Rows.{ScenesSoFar}
use Rattle.sealing.proofs.write_scenes.Given as goal

abbrev pub invariant-loop-j : goal.invariant-loop-j
invariant-loop-j l =
    ScenesSoFar l.luma l.pictures l.time l.units l.initial.buffer l.start l.j l.buffer
