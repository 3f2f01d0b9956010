-- `edge` meets its contract: an offset of the head, or the end. Assumes nothing.
use native.Mathlib.Omega.{arith}
use mathlib.Core.Path.{sym, ◌∙◌}
use Rattle.shelf.proofs.Laws.{edge-inside, edge-end}
use Rattle.shelf.proofs.edge.Goals as goal

pub returns-then-j-records : goal.returns-then-j-records
returns-then-j-records c = c.word32.ensures ∙ sym (edge-inside c.args.bytes.now _ (omega arith))

pub returns : goal.returns
returns c = sym (edge-end c.args.bytes.now _ (omega arith))
