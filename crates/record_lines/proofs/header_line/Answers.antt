-- `header_line` meets its contract. Assumes nothing.
use native.Mathlib.Omega.{arith}
use borrow.Author.Rules.{rules}
use mathlib.Core.Path.{refl}
use Rattle.rules.specs.Sheet.{header_fields, header_line}
use Rattle.rules.specs.Bytes.{empty}
use Rattle.record_lines.proofs.Puts.{figure, join, line-put, texted}
use Rattle.record_lines.proofs.header_line.Goals as goal

pub put_numbers-index-requires : goal.put_numbers-index-requires
put_numbers-index-requires c =
    let a = c.args in
    let last = figure a.h.height (search rules) (figure a.h.pictures (search rules) empty) in
    record { each_fits = (search rules, figure a.h.width (search rules) last); room = search rules }

pub returns : goal.returns
unfolding header_line header_fields
returns c =
    let mark = c.put_text-first in
    let fields = join c.put_numbers-index.ensures c.put_bits-end.ensures (omega arith) in
    line-put 32 (header_fields c.args.h) 55 refl (omega arith) c.requires (texted mark.ensures) fields
    c.end_line.ensures
