-- `most_scenes` meets its contract: the rule tries 2, then 14 and 10, as the code does.
use Prim.Native.Nat.{ℕ, ◌+◌, ◌-◌, ◌/◌}
use native.Mathlib.Omega.{arith}
use native.Mathlib.Nat.{div-le_self}
use mathlib.Core.Path.{sym, ap, ◌∙◌}
use Rattle.std.specs.Prelude.{Ok}
use Rattle.luma_laws.proofs.Least.{good-between}
use Rattle.luma_busiest.proofs.Laws.Answers.{wrong-time, no-picture, many-pictures, few_pictures, more-pictures}
use Rattle.luma_busiest.proofs.most_scenes.Goals as goal

pub returns-then-not-good_time : goal.returns-then-not-good_time
returns-then-not-good_time c = wrong-time _ _ (sym c.good_time.ensures ∙ c.if-not-good_time.true)

pub returns-then-pictures-eq0 : goal.returns-then-pictures-eq0
returns-then-pictures-eq0 c =
    let good = sym c.good_time.ensures ∙ c.if-not-good_time.false in
    no-picture _ _ good c.if-pictures-eq0.true

pub returns-then-pictures-gt750 : goal.returns-then-pictures-gt750
returns-then-pictures-gt750 c =
    let good = sym c.good_time.ensures ∙ c.if-not-good_time.false in
    many-pictures _ _ good (omega arith)

pub returns-then-pictures-lt3 : goal.returns-then-pictures-lt3
returns-then-pictures-lt3 c =
    let good = sym c.good_time.ensures ∙ c.if-not-good_time.false in
    few_pictures _ _ good c.if-pictures-lt3.true c.if-pictures-eq0.false

pub least_between-m-requires : goal.least_between-m-requires
least_between-m-requires c = sym c.good_time.ensures ∙ c.if-not-good_time.false

pub nonzero_div-result : goal.nonzero_div-result
nonzero_div-result c =
    let good = sym c.good_time.ensures ∙ c.if-not-good_time.false in
    omega (arith, good-between c.args.time good)

pub overflow_add-result : goal.overflow_add-result
overflow_add-result c =
    let n = c.args.pictures in
    omega (arith, div-le_self (n - 3) c.least_between-m.result)

pub returns : goal.returns
returns c =
    let n = c.args.pictures in
    let good = sym c.good_time.ensures ∙ c.if-not-good_time.false in
    ap (λ (m : ℕ). Ok (1 + (n - 3) / m)) c.least_between-m.ensures ∙ more-pictures c.args.time
    n good (omega arith) (omega arith)
