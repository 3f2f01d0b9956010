use Rattle.rules.specs.Reading.{scene_in}
use Rattle.record_reader.proofs.scene_in.Goals as goal

pub returns : goal.returns
unfolding scene_in
returns c =
    rw (
      c.word32.ensures,
      c.word32-2.ensures,
      c.word32-3.ensures,
      c.word32-4.ensures,
      c.word32-5.ensures,
      c.word32-6.ensures,
      c.word32-7.ensures,
    )
