-- `verify` meets its contract, by the two answers of opening. Assumes nothing.
use Rattle.rules.proofs.Laws.Answers.{passed-on}
use Rattle.record_reader.proofs.Answers.{accepted, refused-as}
use Rattle.record_verify.proofs.Accepted.{accepted-answer, refused-answer}
use Rattle.record_verify.proofs.verify.Goals as goal

pub returns-in_err-counts : goal.returns-in_err-counts
returns-in_err-counts c =
    let passed = passed-on c.from_residual.result _ c.from_residual.ensures.1 in
    rw passed (refused-answer _ _ (refused-as _ _ c.«open».ensures _ c.in_err-counts.was))

pub verify_rows-requires : goal.verify_rows-requires
verify_rows-requires c =
    let a = accepted _ _ c.«open».ensures _ _ c.in_ok-counts.was in
    record { counts = (a.units, a.scenes); allowed = a.fault }

pub returns : goal.returns
returns c =
    let a = accepted _ _ c.«open».ensures _ _ c.in_ok-counts.was in
    accepted-answer _ _ a.fault c.verify_rows.ensures
