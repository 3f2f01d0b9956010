-- `lost_in` meets its contract: a chain over the units, of which each adds a 32-bit word. Assumes nothing.
use Prim.Native.Nat.{ℕ, ◌<◌, ◌^◌}
use native.Mathlib.Omega.{arith}
use mathlib.Core.Path.{refl, ◌∙◌}
use mathlib.Core.List.{map}
use borrow.Author.Rules.{rules}
use Rattle.std.specs.List.{sum, range_with_len}
use Rattle.std.proofs.iter.Serving.{serving}
use Rattle.std.proofs.lemmas.Iterator.{YieldsList-from_range, YieldsList-from_map}
use Rattle.std.proofs.lemmas.Iterator.Consumers.{YieldsList-at, sum_from_yields_List, fits_from_yields_list}
use Rattle.rules.specs.Reading.{unit_at}
use Rattle.record_reader.proofs.Promise.{row_inside}
use Rattle.record_reader.proofs.Sums.{sum_of_rows}
use Rattle.shelf.proofs.Laws.{record-fits}
use Rattle.shelf.proofs.Steps.{lost-units}
use Rattle.shelf.proofs.lost_in.Goals as goal

pub sum-requires-clause-can : goal.sum-requires-clause-can
sum-requires-clause-can c =
    let inside = row_inside c.args.bytes.now c.requires.0 in
    grind (serving, inside, c.requires.1)

pub sum-requires-clause-fits : goal.sum-requires-clause-fits
sum-requires-clause-fits c =
    let r = c.args.bytes.now in
    let n = c.args.units in
    let lost : ℕ → ℕ = λ k. (unit_at r k).lost in
    let few : sum (map lost (range_with_len 0 n)) < 2 ^ 64 =
    omega (
      arith,
      sum_of_rows lost n 0,
      lost-units r n c.requires.0 c.requires.1,
      record-fits r (λ k. (c.type_inv.bytes k).fits),
    )
    in
    let all = YieldsList-at c.map.ensures.source (YieldsList-from_range 0 n n refl (omega arith)) in
    fits_from_yields_list _ _ (YieldsList-from_map _ lost all c.map.ensures.closure (λ x r q h. search rules)) few

pub returns : goal.returns
returns c =
    let r = c.args.bytes.now in
    let n = c.args.units in
    let lost : ℕ → ℕ = λ k. (unit_at r k).lost in
    let all = YieldsList-at c.map.ensures.source (YieldsList-from_range 0 n n refl (omega arith)) in
    sum_from_yields_List _ _ c.sum.ensures.ran
    (YieldsList-from_map _ lost all c.map.ensures.closure (λ x r q h. search rules))
    ∙ sum_of_rows lost n 0 ∙ lost-units r n c.requires.0 c.requires.1
