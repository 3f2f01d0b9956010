-- `luma_scenes::starts_scene` meets its contract: its products fit.
use Prim.Native.Nat.{◌-◌}
use native.Mathlib.Nat.{mul-le-mul}
use native.Mathlib.Omega.{arith}
use Rattle.luma_scenes.proofs.starts_scene.Goals as goal

pub overflow_mul-n : goal.overflow_mul-n
overflow_mul-n c =
    omega
    (arith, mul-le-mul {n₁ = c.args.n} {m₁ = c.args.d} {n₂ = 750} {m₂ = 4294967296} (omega arith) (omega arith))

pub overflow_mul-result-then-s-gt1000 : goal.overflow_mul-result-then-s-gt1000
overflow_mul-result-then-s-gt1000 c =
    let a = c.args in
    omega (arith, mul-le-mul {n₁ = a.s} {m₁ = a.n - 1} {n₂ = 4294967296} {m₂ = 750} (omega arith) (omega arith))
