use Prim.Native.Nat.{ℕ}
use native.Mathlib.Omega.{arith}
use mathlib.Core.Path.{◌≡◌, ap, ◌∙◌}
use Rattle.rules.specs.GapRuns.{gap_lost}
use Rattle.gap_runs.specs.Entries.{entry_at}
use Rattle.gap_runs.proofs.Filling.{total_left, total-all, entry-few, over-gaps}
use Rattle.gap_runs.proofs.one_more.Goals as goal

pub loop-g-init : goal.loop-g-init
loop-g-init c = (omega arith, omega arith)

pub overflow_add-sum : goal.overflow_add-sum
overflow_add-sum c =
    let from = c.args in
    omega (arith, entry-few from.entries.now from.l c.gap_lost.result c.requires)

pub loop-g-preserved : goal.loop-g-preserved
loop-g-preserved c =
    let at = c.loop-g in
    let from = c.args in let xs = from.entries.now in
    let f : ℕ → ℕ = λ h. entry_at xs from.l (gap_lost h) in
    let here : c.entry_at-sum.result ≡ f at.g = c.entry_at-sum.ensures ∙ ap (entry_at xs from.l)
    c.gap_lost.ensures in
    let small = entry-few xs from.l (gap_lost at.g) c.requires in
    (omega arith, omega (arith, total_left 16 at.g f (omega arith)))

pub returns : goal.returns
returns c =
    let at = c.loop-g in let from = c.args in
    let f : ℕ → ℕ = λ h. entry_at from.entries.now from.l (gap_lost h) in
    omega (arith, over-gaps from.entries.now from.l, total-all 16 at.g f (omega arith))
