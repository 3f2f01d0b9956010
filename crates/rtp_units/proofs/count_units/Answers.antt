use Rattle.std.proofs.Common.{sym, ap, ◌∙◌, arith, length}
use Rattle.rtp_units.proofs.Units.{onto-units, counted, not-counted, all-counted}
use Rattle.rtp_units.proofs.count_units.Goals as goal
use Rattle.rtp_units.proofs.count_units.Goals.{then-ends, else-ends}

pub loop-i-init : goal.loop-i-init
loop-i-init c = (omega arith, λ l e. omega (arith, ap length (onto-units l c.args.rows.now)))

pub loop-i-preserved : goal.loop-i-preserved
loop-i-preserved c =
    let rows = c.args.rows.now in
    let l = c.loop-i in
    elim c.if-ends.branch [
      | then-ends w ↦
          rw w.units-is (
            omega arith,
            λ k e. counted k rows l.i l.units _ (l.invariant.1 k e) (omega arith)
                (rw e (sym c.ends.ensures ∙ w.if-ends.true)),
          )
      | else-ends w ↦
          rw w.units-is (
            omega arith,
            λ k e. not-counted k rows l.i l.units _ (l.invariant.1 k e) (omega arith)
                (rw e (sym c.ends.ensures ∙ w.if-ends.false)),
          )
    ]

pub returns : goal.returns
returns c = (
  omega arith,
  λ k e. all-counted k c.args.rows.now c.loop-i.i c.loop-i.units _ (c.loop-i.invariant.1 k e)
      (omega arith),
)
