-- `add` meets its contract, by whether the cell is good.
use Rattle.std.proofs.Common.{refl}
use Rattle.survey_counts.proofs.Counts.{tallied-good, tallied-other}
use Rattle.survey_counts.proofs.add.Goals as goal
use Rattle.survey_counts.proofs.add.Goals.{in-Good, in_default}

pub returns-then-matches : goal.returns-then-matches
returns-then-matches c =
    elim c.match-matches.branch [
      | in-Good w ↦ tallied-good _ _ c.args.c w.in-Good.is c.requires refl
      | in_default w ↦ cc (w.matches-is, c.if-matches.true)
    ]

pub returns-else-matches : goal.returns-else-matches
returns-else-matches c =
    elim c.match-matches.branch [
      | in-Good w ↦ cc (w.matches-is, c.if-matches.false)
      | in_default w ↦ tallied-other _ c.args.c w.in_default.not-Good
    ]
