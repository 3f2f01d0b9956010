-- `carolsedge_sheet` meets its contract: number, value and buffer are those of `record_sheet::sheet`. Assumes nothing.
use mathlib.Core.Path.{ap, ◌∙◌}
use Rattle.c_numbers.specs.Numbers.{number_of, value_of}
use Rattle.c_record.proofs.carolsedge_sheet.Goals as goal

pub returns : goal.returns
returns c =
    let promised = c.sheet-a.ensures in
    record {
      numbered = c.number_of.ensures ∙ ap number_of promised.answered;
      valued = c.value_of.ensures ∙ ap value_of promised.answered;
      printed = promised.printed;
    }
