use Prim.Native.Nat.{◌+◌, ◌≤◌}
use native.Mathlib.Omega.{arith}
use mathlib.Core.Path.{sym, ◌∙◌}
use Rattle.luma_scenes.proofs.Loops.{Longest, longest-on, longest-off, longest-all}
use borrow.Author.Rules.{rules}
use Rattle.luma_scenes.proofs.longest.Goals as goal
use Rattle.luma_scenes.proofs.longest.Goals.{then-repeat_bit-eq1, else-repeat_bit-eq1}

pub loop-k-init : goal.loop-k-init
loop-k-init c = (omega arith, omega arith, λ n rs h g e. (g, omega arith))

pub loop-k-preserved : goal.loop-k-preserved
loop-k-preserved c =
    let a = c.args in
    let l = c.loop-k in
    let bit = c.repeat_bit.ensures in
    let next = c.max-most.ensures in
    let run-most : c.if-repeat_bit-eq1.run ≤ l.run + 1 = elim c.if-repeat_bit-eq1.branch
    [ then-repeat_bit-eq1 w ↦ omega arith | else-repeat_bit-eq1 w ↦ omega arith ] in
    let more : Longest a.luma.now a.i a.j c.max-most.result c.if-repeat_bit-eq1.run (l.k + 1) =
    elim c.if-repeat_bit-eq1.branch [
      | then-repeat_bit-eq1 w ↦ rw w.run-is (longest-on a.luma.now a.i a.j l.most l.run l.k c.max-most.result
          l.invariant.2 c.loop-k-test.true (sym bit ∙ w.if-repeat_bit-eq1.true) (next ∙ rw w.run-is))
      | else-repeat_bit-eq1 w ↦ rw w.run-is (longest-off a.luma.now a.i a.j l.most l.run l.k c.max-most.result
          l.invariant.2 c.loop-k-test.true (λ e. w.if-repeat_bit-eq1.false (bit ∙ e)) (next ∙ rw w.run-is)
          l.invariant.0)
    ] in
    (omega arith, omega arith, more)

pub returns : goal.returns
returns c = search (rules, longest-all)
