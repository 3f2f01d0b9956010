-- `unit_line` meets its contract, with the field for damaged cells and without. Assumes nothing.
use native.Mathlib.Omega.{arith}
use mathlib.Core.Path.{refl, sym}
use mathlib.Core.Bool.{true, false}
use mathlib.Core.List.{append-nil}
use Rattle.rules.specs.Sheet.{unit_fields, unit_line}
use Rattle.rules.specs.Bytes.{empty}
use Rattle.record_lines.proofs.Puts.{figure, time, join, same-put, line-put, texted}
use borrow.Author.Rules.{rules}
use Rattle.record_lines.proofs.unit_line.Goals as goal

pub put_numbers-second-requires : goal.put_numbers-second-requires
put_numbers-second-requires c =
    let a = c.args in
    record { each_fits = (search rules, figure a.j (search rules) empty); room = search rules }

pub put_numbers-third-requires : goal.put_numbers-third-requires
put_numbers-third-requires c =
    let a = c.args in
    let times = time a.u.least (search rules) (time a.u.greatest (search rules) empty) in
    record { each_fits = (search rules, times); room = omega arith }

pub put_numbers-end-requires : goal.put_numbers-end-requires
put_numbers-end-requires c =
    let a = c.args in
    let last = figure a.u.packets (search rules) (figure a.u.lost (search rules) empty) in
    record { each_fits = (search rules, figure a.u.size (search rules) last); room = search rules }

pub put_numbers-last-requires : goal.put_numbers-last-requires
put_numbers-last-requires c = record { each_fits = (omega arith, figure _ (search rules) empty); room = omega arith }

pub returns-then-known : goal.returns-then-known
unfolding unit_line unit_fields
returns-then-known c =
    let mark = c.put_text-first in
    let times = join c.put_numbers-second.ensures c.put_numbers-third.ensures
    (omega arith) in
    let counts = join times c.put_numbers-end.ensures (omega arith) in
    let fields = join counts c.put_numbers-last.ensures (omega arith) in
    rw c.if-known.true (line-put 85 (unit_fields true c.args.j c.args.u) 98 refl (omega arith)
    c.requires (texted mark.ensures) fields c.end_line.ensures)

pub returns : goal.returns
unfolding unit_line unit_fields
returns c =
    let mark = c.put_text-first in
    let times = join c.put_numbers-second.ensures c.put_numbers-third.ensures (omega arith) in
    let counts = join times c.put_numbers-end.ensures (omega arith) in
    let fields = same-put 86 _ (unit_fields false c.args.j c.args.u) counts refl refl (sym (append-nil _)) in
    rw c.if-known.false (line-put 85 (unit_fields false c.args.j c.args.u) 87 refl (omega arith) c.requires
    (texted mark.ensures) fields c.end_line-2.ensures)
