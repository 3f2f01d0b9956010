use Rattle.rules.specs.Reading.{unit_in}
use Rattle.record_reader.proofs.unit_in.Goals as goal

pub returns : goal.returns
unfolding unit_in
returns c =
    rw (
      c.word64.ensures,
      c.word64-2.ensures,
      c.word32.ensures,
      c.word32-2.ensures,
      c.word32-3.ensures,
      c.word32-4.ensures,
    )
