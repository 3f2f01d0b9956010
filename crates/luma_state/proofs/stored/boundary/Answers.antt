use native.Mathlib.Omega.{arith}
use native.Mathlib.Nat.{mul-le-mul_right}
use Rattle.luma_laws.proofs.Columns.{boundary-is}
use Rattle.luma_state.proofs.stored.boundary.Goals as goal

pub overflow_mul-result : goal.overflow_mul-result
overflow_mul-result c = omega (arith, mul-le-mul_right c.args.w c.requires.0)

pub overflow_add-result : goal.overflow_add-result
overflow_add-result c = omega (arith, mul-le-mul_right c.args.w c.requires.0)

pub returns : goal.returns
returns c = (boundary-is c.args.k c.args.w, omega (arith, mul-le-mul_right c.args.w c.requires.0))
