use Rattle.std.proofs.Common.{◌≡◌, ◌+◌, ◌*◌, ◌/◌, ◌<◌, length, length-take, length-drop, zero-mul, div-le_self}
use Rattle.std.proofs.Common.{take_all, div-mul-le_self, arith}
use Rattle.std.proofs.lemmas.List.{take_rest}
use native.Mathlib.Nat.{lt-div-mul-add}
use Rattle.luma_sums.proofs.Runs.{to-edge}
use Rattle.luma_sums.proofs.add_run.Goals as goal

pub add_blocks-requires : goal.add_blocks-requires
add_blocks-requires c =
    let p = c.requires in
    record { some = p.some; few = p.few; room = p.room; narrow = omega arith }

pub returns-then-x-eq0 : goal.returns-then-x-eq0
returns-then-x-eq0 c =
    rw (c.if-x-eq0.true, ← zero-mul c.args.n)
    c.add_blocks.ensures

pub overflow_mul-c : goal.overflow_mul-c
overflow_mul-c c = omega (arith, div-mul-le_self c.args.x c.args.n)

pub overflow_add-c : goal.overflow_add-c
overflow_add-c c = omega (arith, div-mul-le_self c.args.x c.args.n)

pub overflow_sub-c : goal.overflow_sub-c
overflow_sub-c c = omega (arith, lt-div-mul-add {a = c.args.x} c.requires.some)

pub returns-then-head-bytes : goal.returns-then-head-bytes
returns-then-head-bytes c =
    let a = c.args in let p = c.requires in
    let lo = div-mul-le_self a.x a.n in
    let hi = lt-div-mul-add {a = a.x} p.some in
    let head = c.min-head.result in
    rw (take_all head a.bytes.now (omega arith)) at
    (c.part.ensures a.n a.x p.some lo (λ h. simp length-take (omega arith)))

pub overflow_add-c-2 : goal.overflow_add-c-2
overflow_add-c-2 c = omega (arith, div-le_self c.args.x c.args.n)

pub add_blocks-requires-2 : goal.add_blocks-requires-2
add_blocks-requires-2 c =
    let p = c.requires in
    record {
      some = p.some;
      few = p.few;
      room = p.room;
      narrow = simp (length-take, length-drop) (omega arith);
    }

pub returns : goal.returns
returns c =
    let a = c.args in
    let p = c.requires in let head = c.min-head.result in let e = c.min-head.ensures in
    let lo = div-mul-le_self a.x a.n in
    let hi = lt-div-mul-add {a = a.x} p.some in
    let short : head < length a.bytes.now = omega arith in
    let edge : a.x + head ≡ a.x / a.n * a.n + a.n = omega arith in
    to-edge a.n a.w a.x (a.x / a.n) a.bytes.now head p.some lo edge (omega arith) c.part.ensures
    (rw take_rest at c.add_blocks-2.ensures)
