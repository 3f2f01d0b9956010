use Rattle.std.proofs.Common.{◌≡◌, length, get_or, length-take, length-drop, ap, ◌∙◌, arith}
use Rattle.std.proofs.lemmas.List.{get_or-replicate}
use Rattle.luma_tiles.proofs.Laws.{zeros-all}
use Rattle.luma_tiles.proofs.clear.Goals as goal

pub returns : goal.returns
returns c =
    let f = c.fill.ensures in
    let len = simp (length-take, length-drop) at f.len in
    let size : length c.fill.new.self ≡ 144 = omega arith in
    zeros-all c.args.base _ c.args.counts.now c.fill.new.self (omega arith) (omega arith) size
    (λ i h. ap (λ xs. get_or xs i 0) (f.after (λ y e. e)) ∙ get_or-replicate _ i 0 0 (omega (arith, f.len)))
