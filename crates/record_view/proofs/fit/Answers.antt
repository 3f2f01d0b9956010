-- `fit` meets its contract, test by test. Assumes nothing.
use Rattle.record_view.proofs.Counted.{no-unit, many-units, many-scenes, too_short, so-long}
use Rattle.record_view.proofs.fit.Goals as goal

pub returns-then-units-lt1 : goal.returns-then-units-lt1
returns-then-units-lt1 c = no-unit _ _ _ c.if-units-lt1.true

pub returns-then-units-gt750 : goal.returns-then-units-gt750
returns-then-units-gt750 c = many-units _ _ _ c.if-units-lt1.false c.if-units-gt750.true

pub returns-then-scenes-gt250 : goal.returns-then-scenes-gt250
returns-then-scenes-gt250 c = many-scenes _ _ _ c.if-units-lt1.false c.if-units-gt750.false c.if-scenes-gt250.true

pub returns-then-bytes-units : goal.returns-then-bytes-units
returns-then-bytes-units c =
    too_short _ _ _ c.if-units-lt1.false c.if-units-gt750.false c.if-scenes-gt250.false
    c.if-bytes-units.true

pub returns : goal.returns
returns c =
    so-long _ _ _ c.if-units-lt1.false c.if-units-gt750.false
    c.if-scenes-gt250.false c.if-bytes-units.false _ c.word32.ensures
