use native.Mathlib.Omega.{arith}
use Prim.Native.Nat.{◌+◌, ◌*◌}
use mathlib.Core.Path.{ap, ◌∙◌}
use lib.ListN.{drop, length-take, length-drop}
use Prim.Native.Nat.{ℕ}
use Rattle.record_allowed.proofs.Rows.{part}
use Rattle.rules.specs.Reading.{scene_in}
use Rattle.rules.specs.Record.{scene_offset}
use Rattle.rules.specs.Reading.{scene_at, scene_place}
use Rattle.record_reader.proofs.scene_row.Goals as goal

pub overflow_mul-at : goal.overflow_mul-at
unfolding scene_offset
overflow_mul-at c = omega arith

pub overflow_add-at : goal.overflow_add-at
unfolding scene_offset
overflow_add-at c = omega arith

pub overflow_add-at-2 : goal.overflow_add-at-2
unfolding scene_offset
overflow_add-at-2 c = omega arith

pub slice_bounds-scene_in-count : goal.slice_bounds-scene_in-count
unfolding scene_offset
slice_bounds-scene_in-count c = omega arith

pub slice_bounds-scene_in-start : goal.slice_bounds-scene_in-start
unfolding scene_offset
slice_bounds-scene_in-start c = omega arith

pub scene_in-requires : goal.scene_in-requires
unfolding scene_offset
scene_in-requires c = simp (length-take, length-drop) (omega arith)

pub returns : goal.returns
unfolding scene_at scene_place scene_offset scene_in
returns c =
    c.scene_in.ensures ∙ (ap scene_in (part (64 + 32 * c.args.units + 32 * c.args.j) c.args.bytes.now) ∙
    ap (λ (u : ℕ). scene_in (drop (64 + 32 * u + 32 * c.args.j) c.args.bytes.now)) c.requires.0)
