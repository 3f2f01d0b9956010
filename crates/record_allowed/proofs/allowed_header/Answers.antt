use Rattle.rules.specs.Record.{record_length, scene_offset}
use Rattle.rules.specs.Reading.{allowed_header}
use Rattle.record_allowed.proofs.allowed_header.Goals as goal

pub returns : goal.returns
unfolding allowed_header record_length scene_offset
returns c =
    rw (
      c.word-size.ensures.0,
      c.word-units.ensures.0,
      c.word-scenes.ensures.0,
      c.word-pictures.ensures.0,
      c.is_edition.ensures,
      c.word32.ensures,
      c.word.ensures.0,
      c.word-2.ensures.0,
      c.good_size.ensures,
      c.word32-2.ensures,
      c.word32-3.ensures,
      c.good_time.ensures,
      c.word32-4.ensures,
      c.good_pid.ensures,
      c.word32-5.ensures,
      c.word-3.ensures.0,
      c.word-4.ensures.0,
    )
