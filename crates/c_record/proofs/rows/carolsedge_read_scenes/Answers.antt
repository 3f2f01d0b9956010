-- `carolsedge_read_scenes` meets its contract: number, count and rows are those of `record_rows::read_scenes`.
-- Assumes nothing.
use mathlib.Core.Path.{ap, ◌∙◌}
use Rattle.c_numbers.specs.Numbers.{number_of, value_of}
use Rattle.c_record.proofs.rows.carolsedge_read_scenes.Goals as goal

pub returns : goal.returns
returns c =
    let promised = c.read_scenes-a.ensures in
    record {
      numbered = c.number_of.ensures ∙ ap number_of promised.answered;
      counted = c.value_of.ensures ∙ ap value_of promised.answered;
      given = promised.given;
    }
