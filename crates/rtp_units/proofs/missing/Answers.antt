use Rattle.std.proofs.Common.{sym, arith}
use Rattle.rtp_units.proofs.Units.{missing-first, missing-behind}
use Rattle.rtp_units.proofs.missing.Goals as goal

pub returns-then-i-eq0 : goal.returns-then-i-eq0
returns-then-i-eq0 c = sym (missing-first c.args.rows.now _ c.if-i-eq0.true)

pub returns : goal.returns
returns c = omega (arith, missing-behind c.args.rows.now c.args.i c.if-i-eq0.false)
