-- Opening a record: its counts of rows, or the refusal.
use Rattle.std.specs.Prelude.{ℕ, List}
use Rattle.rules.specs.Bytes.{word32}
use Rattle.rules.specs.Refusals.{Answer, answer}
use Rattle.rules.specs.Reading.{reading_fault}
use Rattle.record_reader.specs.declared.RowCounts.{RowCounts}

-- what opening the record r answers
unfoldable pub opened_as : List ℕ → Answer RowCounts
opened_as r = answer (reading_fault r) (record { units = word32 r 8; scenes = word32 r 16 })
