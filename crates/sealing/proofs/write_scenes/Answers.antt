use Prim.Native.Nat.{ℕ, ◌+◌, ◌*◌}
use native.Mathlib.Omega.{arith}
use mathlib.Core.Path.{◌≡◌, ap, ◌∙◌}
use Rattle.rules.specs.Record.{record_length, scene_offset, scene_bytes}
use Rattle.words.specs.Written.{written}
use Rattle.sealing.proofs.Rows.{scenes-none, scenes-more, scenes-all}
use Rattle.sealing.proofs.write_scenes.Goals as goal

place : (units j : ℕ) → 64 + 32 * (units + j) ≡ scene_offset units + 32 * j
unfolding scene_offset
place units j = omega arith

pub loop-j-init : goal.loop-j-init
loop-j-init c = (scenes-none _ _ _ _ _)

pub overflow_add-at : goal.overflow_add-at
unfolding record_length
overflow_add-at c = omega arith

pub overflow_mul-at : goal.overflow_mul-at
unfolding record_length
overflow_mul-at c = omega arith

pub overflow_add-at-in-loop-j : goal.overflow_add-at-in-loop-j
unfolding record_length
overflow_add-at-in-loop-j c = omega arith

pub write_scene-requires : goal.write_scene-requires
unfolding record_length scene_offset
write_scene-requires c = omega arith

pub loop-j-preserved : goal.loop-j-preserved
unfolding record_length scene_offset
loop-j-preserved c =
    let a = c.args in
    let l = c.loop-j in
    let x = c.next_start-next in
    let r = c.scene_row-row in
    let w = c.write_scene in
    scenes-more a.luma.now a.pictures a.time a.units a.buffer.now l.buffer l.start l.j
    l.invariant x.result r.result x.ensures r.ensures (omega arith)
    (w.ensures ∙ ap (λ (k : ℕ). written k (scene_bytes r.result) l.buffer) (place a.units l.j))

pub returns : goal.returns
returns c =
    let a = c.args in
    let l = c.loop-j in
    scenes-all a.luma.now a.pictures a.time a.units a.buffer.now l.buffer l.start l.j
    l.invariant a.n (omega arith)
