use Prim.Native.Nat.{ℕ, ◌+◌}
use native.Mathlib.Omega.{arith}
use mathlib.Core.Bool.{Bool}
use mathlib.Core.Path.{refl, ◌∙◌}
use lib.Dec.{ltb}
use borrow.Author.Rules.{rules}
use Rattle.std.proofs.lemmas.Iterator.{YieldsList-from_range}
use Rattle.std.proofs.lemmas.Iterator.Search.{all_from_yields_List}
use Rattle.rules.specs.Shelf.{edge}
use Rattle.shelf.proofs.Steps.{rising-all}
use Rattle.shelf.proofs.rising.Goals as goal

pub returns : goal.returns
returns c =
    let s = c.args.bytes.now in
    let n = c.args.records in
    let below : ℕ → Bool = λ k. ltb (edge s k) (edge s (k + 1)) in
    let all = YieldsList-from_range 0 n n refl (omega arith) in
    all_from_yields_List below _ _ _ c.all.ensures.ran all (λ x b q h. search rules) ∙ rising-all s n 0
