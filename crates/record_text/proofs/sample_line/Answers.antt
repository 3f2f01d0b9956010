use native.Mathlib.Omega.{arith}
use borrow.Author.Rules.{rules}
use mathlib.Core.List.{[], ◌∷◌}
use Rattle.record_text.proofs.Texts.{line-of-four, length-hex}
use Rattle.rules.specs.Digits.{hex_in}
use Rattle.record_text.specs.Lines.{fields, sample_line}
use Rattle.record_text.proofs.sample_line.Goals as goal

pub returns : goal.returns
unfolding sample_line
returns c =
    let whole = line-of-four (115 ∷ 97 ∷ 109 ∷ 112 ∷ 108 ∷ 101 ∷ []) (fields (c.args.h.width ∷ c.args.h.height ∷
    c.args.h.time ∷ c.args.h.pid ∷ c.args.h.pictures ∷ c.args.h.frames ∷ c.args.h.skipped ∷
    c.args.h.bad ∷ [])) (32 ∷ hex_in 16 c.args.h.index) (10 ∷ []) c.args.buffer.now
    c.put_text-word.new.buffer c.put_fields-figures.new.buffer c.put_hex-index.new.buffer c.put_text.new.buffer
    c.put_text-word.result c.put_fields-figures.result c.put_hex-index.result c.put_text.result (omega arith)
    (omega arith) (omega arith) c.put_text-word.ensures c.put_fields-figures.ensures.0 c.put_fields-figures.ensures.2
    (omega (arith, length-hex 16 c.args.h.index)) c.put_hex-index.ensures.1 c.put_text.ensures in
    record { size = whole.0; prefix = search rules; bytes = whole.1 }
