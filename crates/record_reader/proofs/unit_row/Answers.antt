use native.Mathlib.Omega.{arith}
use Prim.Native.Nat.{◌+◌, ◌*◌}
use mathlib.Core.Path.{ap, ◌∙◌}
use lib.ListN.{length-take, length-drop}
use Rattle.record_allowed.proofs.Rows.{part}
use Rattle.rules.specs.Reading.{unit_in}
use Rattle.rules.specs.Reading.{unit_place, unit_at}
use Rattle.record_reader.proofs.unit_row.Goals as goal

pub overflow_mul-at : goal.overflow_mul-at
unfolding unit_place
overflow_mul-at c = omega arith

pub overflow_add-at : goal.overflow_add-at
unfolding unit_place
overflow_add-at c = omega arith

pub slice_bounds-unit_in-count : goal.slice_bounds-unit_in-count
unfolding unit_place
slice_bounds-unit_in-count c = omega arith

pub slice_bounds-unit_in-start : goal.slice_bounds-unit_in-start
unfolding unit_place
slice_bounds-unit_in-start c = omega arith

pub unit_in-requires : goal.unit_in-requires
unfolding unit_place
unit_in-requires c = simp (length-take, length-drop) (omega arith)

pub returns : goal.returns
unfolding unit_place unit_at unit_in
returns c = c.unit_in.ensures ∙ ap unit_in (part (64 + 32 * c.args.j) c.args.bytes.now)
