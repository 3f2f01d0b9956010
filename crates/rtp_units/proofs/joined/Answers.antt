use Rattle.std.proofs.Common.{eq-eqb, ne_eqb}
use Rattle.rules.proofs.Laws.Lists.{smaller-min, larger-max}
use Rattle.rtp_units.proofs.joined.Goals as goal
use Rattle.rtp_units.proofs.joined.Goals.{then-u-eq0, else-u-eq0}

pub returns : goal.returns
returns c =
    let u = c.args.u in
    rw (c.max.ensures, larger-max u.greatest c.args.time) (elim c.if-u-eq0.branch [
      | then-u-eq0 w ↦ rw (w.result-is, c.from.ensures, eq-eqb u.packets 0 w.if-u-eq0.true)
      | else-u-eq0 w ↦
          rw (
            w.result-is,
            w.min.ensures,
            c.from.ensures,
            ne_eqb u.packets 0 w.if-u-eq0.false,
            smaller-min u.least c.args.time,
          )
    ])
