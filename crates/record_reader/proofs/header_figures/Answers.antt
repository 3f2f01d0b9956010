use Rattle.rules.specs.Reading.{header_of}
use Rattle.record_reader.proofs.header_figures.Goals as goal

pub returns : goal.returns
unfolding header_of
returns c =
    rw (
      c.word32.ensures,
      c.word32-2.ensures,
      c.word32-3.ensures,
      c.word32-4.ensures,
      c.word32-5.ensures,
      c.word32-6.ensures,
      c.word32-7.ensures,
      c.word32-8.ensures,
      c.word32-9.ensures,
      c.word32-10.ensures,
      c.word32-11.ensures,
      c.word64.ensures,
    )
