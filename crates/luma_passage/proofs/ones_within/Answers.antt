-- `ones_within` meets its contract: the mask leaves the n bits from `from` on.
use Prim.Native.Nat.{◌/◌, ◌^◌}
use mathlib.Core.Path.{◌∙◌}
use native.Mathlib.Omega.{arith}
use Rattle.luma_passage.proofs.Laws.{masked, part-few}
use Rattle.luma_passage.proofs.ones_within.Goals as goal

pub returns : goal.returns
returns c =
    let a = c.args in
    let ones = masked a.word a.from a.n c.requires.1 in
    let few = part-few (a.word / 2 ^ a.from) a.n in
    (omega arith, c.from.ensures ∙ ones)
