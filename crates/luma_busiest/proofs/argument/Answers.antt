use native.Mathlib.Omega.{arith}
use mathlib.Core.Path.{sym, ◌∙◌}
use Rattle.luma_busiest.proofs.Laws.Digits.{too_long, read_none, read-room, read-wrong, read-digit, read_all}
use Rattle.luma_busiest.proofs.argument.Goals as goal

pub returns-then-word-gt9 : goal.returns-then-word-gt9
returns-then-word-gt9 c = too_long _ (omega arith)

pub loop-digit-init : goal.loop-digit-init
loop-digit-init c = read_none _ (omega arith)

pub returns-then-not-is_ascii_digit : goal.returns-then-not-is_ascii_digit
returns-then-not-is_ascii_digit c =
    let l = c.loop-digit in
    read-wrong _ l.n l.digit-index l.invariant c.loop-digit-test.true
    (sym c.is_ascii_digit.ensures.value ∙ c.if-not-is_ascii_digit.true)

pub overflow_mul-n : goal.overflow_mul-n
overflow_mul-n c =
    let l = c.loop-digit in
    omega (arith, read-room _ l.n l.digit-index l.invariant c.loop-digit-test.true)

pub overflow_add-n : goal.overflow_add-n
overflow_add-n c =
    let l = c.loop-digit in
    let digit = c.if-not-is_ascii_digit.ensures.cases in
    omega (arith, read-room _ l.n l.digit-index l.invariant c.loop-digit-test.true)

pub loop-digit-preserved : goal.loop-digit-preserved
loop-digit-preserved c =
    let l = c.loop-digit in
    let digit = c.if-not-is_ascii_digit.ensures.cases in
    read-digit _ l.n l.digit-index l.invariant c.loop-digit-test.true (omega arith) (omega arith)

pub returns : goal.returns
returns c = let l = c.loop-digit in read_all _ l.n l.digit-index l.invariant (omega arith)
