use Rattle.std.proofs.Common.{arith}
use Rattle.luma.proofs.Pieces.{passed}
use Rattle.luma.proofs.steps.pass.Goals as goal

pub returns : goal.returns
returns c =
    let p = c.requires in let a = c.args in
    let left = p.0.sane.left p.1 in
    let some = p.0.some in
    passed a.g a.s p.0 p.1 (λ i. omega (arith, c.type_inv.rest i))
    (omega arith) (omega arith) (omega arith) c.skip.ensures
