use native.Mathlib.Omega.{arith}
use mathlib.Core.Path.{ap}
use Rattle.capture_steps.specs.declared.types.Walk.{Walk}
use Rattle.capture_walk.proofs.Turns.{still-more, still-then, still-refused}
use Rattle.capture_walk.proofs.Turns.{still-limit}
use Rattle.capture_walk.proofs.next.Goals as goal
use Rattle.capture_walk.proofs.next.Goals.{in-Nothing, in_default}

pub returns-then-w-ne0 : goal.returns-then-w-ne0
returns-then-w-ne0 c =
    let l = c.loop-at in
    rw c.step.ensures (still-refused l.invariant.2 l.invariant.0 (omega arith) c.if-w-ne0.true)

pub returns-then-w-ge268435456 : goal.returns-then-w-ge268435456
returns-then-w-ge268435456 c =
    let l = c.loop-at in let r = c.refused-t.ensures in
    rw c.step-then-w-ge268435456.ensures (still-limit l.invariant.2 l.invariant.0 c.if-i-at.false (omega arith)
    c.if-w-ne0.false c.if-w-ge268435456.true (ap (λ (x : Walk). x.status) r) (ap (λ (x : Walk).
    x.place) r))

pub returns-then-not-matches : goal.returns-then-not-matches
returns-then-not-matches c =
    let l = c.loop-at in
    rw c.step-then-not-matches.ensures (still-then l.invariant.2 l.invariant.0 c.turn-r.ensures)

pub loop-at-preserved : goal.loop-at-preserved
loop-at-preserved c =
    let l = c.loop-at in
    let t = c.turn-r.ensures in (
      omega arith,
      t.most,
      still-more l.invariant.2 l.invariant.0 t (elim c.match-matches.branch [
        | in-Nothing w ↦ w.in-Nothing.is
        | in_default w ↦ cc (w.matches-is, c.if-not-matches.false)
      ]),
    )
