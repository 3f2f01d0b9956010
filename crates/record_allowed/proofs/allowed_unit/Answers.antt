use Rattle.rules.specs.Reading.{allowed_unit}
use Rattle.record_allowed.proofs.allowed_unit.Goals as goal

pub returns : goal.returns
unfolding allowed_unit
returns c =
    rw (
      c.word-packets.ensures.0,
      c.word64.ensures,
      c.word64-2.ensures,
      c.word.ensures.0,
      c.word-2.ensures.0,
    )
