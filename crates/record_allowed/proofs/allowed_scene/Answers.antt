use Rattle.rules.specs.Reading.{allowed_scene}
use Rattle.record_allowed.proofs.allowed_scene.Goals as goal

pub returns : goal.returns
unfolding allowed_scene
returns c = rw (c.word.ensures.0, c.word-2.ensures.0, c.word-3.ensures.0)
