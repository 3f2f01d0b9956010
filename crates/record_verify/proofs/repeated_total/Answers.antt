-- `repeated_total` meets its contract: a chain over the scene rows, each of which adds a 32-bit word.
use Prim.Native.Nat.{ℕ, ◌≤◌, ◌<◌, ◌^◌}
use native.Mathlib.Omega.{arith}
use mathlib.Core.Path.{refl, ◌∙◌}
use mathlib.Core.List.{map}
use borrow.Author.Rules.{rules}
use Rattle.std.specs.List.{sum, range_with_len}
use Rattle.std.proofs.iter.Serving.{serving}
use Rattle.std.proofs.lemmas.Iterator.{YieldsList-from_range, YieldsList-from_map}
use Rattle.std.proofs.lemmas.Iterator.Consumers.{YieldsList-at, sum_from_yields_List, fits_from_yields_list}
use Rattle.rules.specs.Record.{scene_offset}
use Rattle.rules.specs.Reading.{scene_at}
use Rattle.record_laws.proofs.Allowed.{scene-fits}
use Rattle.record_reader.proofs.Sums.{sum_of_rows, table-most}
use Rattle.record_verify.specs.Totals.{repeated_total}
use Rattle.record_verify.proofs.repeated_total.Goals as goal

pub sum-requires-clause-can : goal.sum-requires-clause-can
unfolding scene_offset
sum-requires-clause-can c = grind serving

pub sum-requires-clause-fits : goal.sum-requires-clause-fits
sum-requires-clause-fits c =
    let n = c.args.counts.scenes in
    let repeated : ℕ → ℕ = λ k. (scene_at c.args.bytes.now k).repeated in
    let word : (k : ℕ) → repeated k ≤ 4294967295 =
    λ k. omega (arith, (scene-fits c.args.bytes.now (λ i. (c.type_inv.bytes i).fits) k).repeated)
    in
    let few : sum (map repeated (range_with_len 0 n)) < 2 ^ 64 =
    omega (arith, sum_of_rows repeated n 0, table-most repeated 4294967295 word n 0)
    in
    let all = YieldsList-at c.map.ensures.source (YieldsList-from_range 0 n n refl (omega arith)) in
    fits_from_yields_list _ _ (YieldsList-from_map _ repeated all c.map.ensures.closure (λ x r q h. search rules)) few

pub returns : goal.returns
unfolding repeated_total
returns c =
    let n = c.args.counts.scenes in
    let repeated : ℕ → ℕ = λ k. (scene_at c.args.bytes.now k).repeated in
    let all = YieldsList-at c.map.ensures.source (YieldsList-from_range 0 n n refl (omega arith)) in
    rw (← c.requires.counts.1)
    (sum_from_yields_List _ _ c.sum.ensures.ran
    (YieldsList-from_map _ repeated all c.map.ensures.closure (λ x r q h. search rules))
    ∙ sum_of_rows repeated n 0)
