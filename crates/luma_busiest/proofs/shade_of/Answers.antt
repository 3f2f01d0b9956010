-- `shade_of` meets its contract.
use Prim.Native.Nat.{ℕ, ◌/◌}
use native.Mathlib.Omega.{arith}
use mathlib.Core.Path.{sym, ap}
use Rattle.rules.specs.Busiest.{shade}
use Rattle.luma_laws.proofs.Least.{good-between}
use Rattle.luma_busiest.proofs.Laws.Tones.{tone-even, tone-odd}
use Rattle.luma_busiest.proofs.shade_of.Goals as goal

pub nonzero_div-run : goal.nonzero_div-run
nonzero_div-run c = omega (arith, good-between c.args.time c.requires)

pub returns-then-run-eq0 : goal.returns-then-run-eq0
unfolding shade
returns-then-run-eq0 c =
    let run : ℕ → ℕ = λ m. c.args.i / m in
    let e = ap run (sym c.least_between.ensures) in
    sym (tone-even _ (rw e c.if-run-eq0.true))

pub returns-else-run-eq0 : goal.returns-else-run-eq0
unfolding shade
returns-else-run-eq0 c =
    let run : ℕ → ℕ = λ m. c.args.i / m in
    let e = ap run (sym c.least_between.ensures) in
    sym (tone-odd _ (rw e c.if-run-eq0.false))
