-- `put_bits` meets its contract: what is written after the word, and after the digits, is one text.
use native.Mathlib.Omega.{arith}
use borrow.Author.Rules.{rules}
use Prim.Native.Nat.{ℕ}
use mathlib.Core.List.{List, ◌∷◌}
use Rattle.rules.specs.Digits.{hex_in}
use Rattle.record_text.proofs.Texts.{line-of-three, length-hex}
use Rattle.program_text.specs.Text.{bits_text}
use Rattle.program_text.proofs.put_bits.Goals as goal

pub returns : goal.returns
unfolding bits_text
returns c =
    let first = c.put_text-start in
    let second = c.put_hex-digits in
    let third = c.put_text in
    let digits : List ℕ = 32 ∷ hex_in 16 c.args.bits in
    let whole = line-of-three
    c.args.word.now digits c.args.end.now
    c.args.line.now first.new.buffer second.new.buffer third.new.buffer
    first.result second.result third.result
    (omega arith) (omega arith)
    first.ensures (omega (arith, length-hex 16 c.args.bits)) second.ensures.1
    third.ensures
    in
    record { size = whole.0; prefix = search rules; bytes = whole.1 }
