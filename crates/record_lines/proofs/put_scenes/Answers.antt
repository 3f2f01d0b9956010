use native.Mathlib.Omega.{arith}
use Prim.Native.Nat.{ℕ}
use Rattle.rules.specs.Record.{scene_offset}
use Rattle.rules.specs.Reading.{scene_at}
use Rattle.rules.specs.Sheet.{scene_line}
use Rattle.record_lines.proofs.Puts.{no_lines, line-more}
use Rattle.record_lines.proofs.put_scenes.Goals as goal

pub loop-j-init : goal.loop-j-init
loop-j-init c =
    let a = c.args in
    no_lines (λ (i : ℕ). scene_line i (scene_at a.bytes.now i)) a.at a.buffer.now

pub scene_row-row-requires : goal.scene_row-row-requires
unfolding scene_offset
scene_row-row-requires c = (c.requires.counts.0, omega arith)

pub loop-j-preserved : goal.loop-j-preserved
loop-j-preserved c =
    let a = c.args in
    let l = c.loop-j in
    line-more (λ (i : ℕ). scene_line i (scene_at a.bytes.now i)) l.j (omega arith) l.invariant
    (rw c.scene_row-row.ensures at c.scene_line-end.ensures)
