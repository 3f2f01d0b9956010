use Rattle.std.proofs.Common.{arith, rules}
use Rattle.rtp_units.proofs.Units.{all-at, ends-marked, ends_last}
use Rattle.rtp_units.proofs.ends.Goals as goal

pub bounds-marker-number : goal.bounds-marker-number
bounds-marker-number c = omega (arith, (all-at c.args.rows.now c.args.i c.requires.1.each c.requires.0).number)

pub returns-then-marker-number-ne0 : goal.returns-then-marker-number-ne0
returns-then-marker-number-ne0 c = search (rules, ends-marked)

pub returns-else-marker-number-ne0 : goal.returns-else-marker-number-ne0
returns-else-marker-number-ne0 c = search (rules, ends_last)
