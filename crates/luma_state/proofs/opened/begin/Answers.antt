use native.Mathlib.Omega.{arith}
use Rattle.luma_state.proofs.Opens.{opened}
use Rattle.luma_state.proofs.opened.begin.Goals as goal

pub returns : goal.returns
returns c =
    let a = c.args in
    opened a.o a.f (record
    { width = omega arith; height = omega arith; time = omega arith; pid = omega arith; edition = omega arith })
    c.requires
