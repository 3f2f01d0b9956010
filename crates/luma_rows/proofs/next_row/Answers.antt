use Rattle.std.proofs.Common.{mul-le-mul, arith}
use Rattle.luma_rows.proofs.next_row.Goals as goal

pub overflow_mul-result : goal.overflow_mul-result
overflow_mul-result c = omega (arith, mul-le-mul c.requires.0.low c.requires.0.few)
