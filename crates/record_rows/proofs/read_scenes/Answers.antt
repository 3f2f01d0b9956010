-- `read_scenes` meets its contract: the record is refused, the lent rows are too few, or they hold the record's.
use native.Mathlib.Omega.{arith}
use Rattle.rules.proofs.Laws.Answers.{passed-on}
use Rattle.record_reader.proofs.Answers.{accepted, refused-as}
use Rattle.record_rows.proofs.Filling.{not-opened, short, done}
use Rattle.record_rows.proofs.read_scenes.Goals as goal

pub returns-then-rows-counts : goal.returns-then-rows-counts
returns-then-rows-counts c =
    let known = accepted _ _ c.«open».ensures _ _ c.in_ok-counts.was in
    rw c.no_room.ensures (short _ _ _ _ known.fault _ known.scenes c.if-rows-counts.true)

pub put_scenes-requires : goal.put_scenes-requires
put_scenes-requires c =
    let known = accepted _ _ c.«open».ensures _ _ c.in_ok-counts.was in
    (known.units, omega (arith, known.size), omega arith)

pub returns : goal.returns
returns c =
    let known = accepted _ _ c.«open».ensures _ _ c.in_ok-counts.was in
    done _ _ _ _ known.fault _ known.scenes c.if-rows-counts.false _ c.put_scenes.ensures

pub returns-in_err-counts : goal.returns-in_err-counts
returns-in_err-counts c =
    let passed = passed-on c.from_residual.result _ c.from_residual.ensures.1 in
    rw passed (not-opened _ _ _ _ _ (refused-as _ _ c.«open».ensures _ c.in_err-counts.was))
