use native.Mathlib.Omega.{arith}
use borrow.Author.Rules.{rules}
use Rattle.record_text.specs.Lines.{fields, line_of}
use Rattle.record_text.proofs.Texts.{line-of-three}
use Rattle.record_text.proofs.put_line.Goals as goal

pub returns : goal.returns
unfolding line_of
returns c =
    let a = c.put_text-start in let b = c.put_fields-figures in let d = c.put_text in
    let whole = line-of-three c.args.word.now (fields c.args.numbers.now) c.args.end.now c.args.buffer.now
    a.new.buffer b.new.buffer d.new.buffer a.result b.result d.result (omega arith) (omega arith)
    a.ensures b.ensures.0 b.ensures.2 d.ensures in
    record { size = whole.0; prefix = search rules; bytes = whole.1 }
