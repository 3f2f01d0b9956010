-- `scene_line` meets its contract. Assumes nothing.
use borrow.Author.Rules.{rules}
use Rattle.rules.specs.Sheet.{scene_fields, scene_line}
use Rattle.rules.specs.Bytes.{empty}
use Rattle.record_lines.proofs.Puts.{figure, line-put}
use Rattle.record_lines.proofs.scene_line.Goals as goal

pub put_numbers-end-requires : goal.put_numbers-end-requires
put_numbers-end-requires c =
    let a = c.args in
    let last = figure a.s.peak (search rules) (figure a.s.change (search rules) empty) in
    let later = figure a.s.longest (search rules) (figure a.s.score (search rules) last) in
    let rest = figure a.s.pictures (search rules) (figure a.s.repeated (search rules) later) in
    record {
      each_fits = (search rules, figure a.j (search rules) (figure a.s.first (search rules) rest));
      room = search rules;
    }

pub returns : goal.returns
unfolding scene_line scene_fields
returns c = search (rules, line-put)
