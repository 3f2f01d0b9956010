use Rattle.std.proofs.Common.{div-lt_iff_lt-mul, mul-le-mul, div-mul-le_self, arith}
use native.Mathlib.Nat.{lt-div-mul-add}
use Rattle.luma_sums.proofs.fitting.Goals as goal

pub overflow_mul-room : goal.overflow_mul-room
overflow_mul-room c = omega (arith, mul-le-mul c.requires.2 c.requires.1)

pub returns-then-room-n : goal.returns-then-room-n
returns-then-room-n c = (omega arith, c.if-room-n.true, λ h. absurd (omega arith))

pub returns-else-room-n : goal.returns-else-room-n
returns-else-room-n c =
    let a = c.args in
    let less = (div-lt_iff_lt-mul c.requires.0).1 c.if-room-n.false in
    (omega arith, div-mul-le_self a.m a.n, λ h. lt-div-mul-add {a = a.m} c.requires.0)
