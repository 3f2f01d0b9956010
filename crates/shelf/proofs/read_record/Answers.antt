-- `read_record` meets its contract: what the reader refuses is refused, and of what it accepts the lost cells are
-- summed. Assumes nothing.
use Rattle.rules.proofs.Laws.Answers.{passed-on}
use Rattle.record_reader.proofs.Answers.{accepted, refused-as}
use Rattle.shelf.proofs.Steps.{record-given, record-done, record-refused}
use Rattle.shelf.proofs.read_record.Goals as goal

pub returns-in_err-counts : goal.returns-in_err-counts
returns-in_err-counts c =
    let passed = passed-on c.from_residual.result _ c.from_residual.ensures.1 in
    rw passed (record-refused _ _ (refused-as _ _ c.«open».ensures _ c.in_err-counts.was))

pub lost_in-requires : goal.lost_in-requires
lost_in-requires c = record-given _ _ _ (accepted _ _ c.«open».ensures _ _ c.in_ok-counts.was)

pub returns : goal.returns
returns c = record-done _ _ _ (accepted _ _ c.«open».ensures _ _ c.in_ok-counts.was) _ c.lost_in.ensures
