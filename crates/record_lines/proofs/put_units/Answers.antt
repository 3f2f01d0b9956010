use native.Mathlib.Omega.{arith}
use Prim.Native.Nat.{ℕ}
use Rattle.rules.specs.Reading.{unit_place, unit_at}
use Rattle.rules.specs.Sheet.{unit_line}
use Rattle.record_lines.proofs.Puts.{no_lines, line-more}
use Rattle.record_lines.proofs.put_units.Goals as goal

pub loop-j-init : goal.loop-j-init
loop-j-init c =
    let a = c.args in
    no_lines (λ (i : ℕ). unit_line a.known i (unit_at a.bytes.now i)) a.at a.buffer.now

pub unit_row-row-requires : goal.unit_row-row-requires
unfolding unit_place
unit_row-row-requires c = omega arith

pub loop-j-preserved : goal.loop-j-preserved
loop-j-preserved c =
    let a = c.args in
    let l = c.loop-j in
    line-more (λ (i : ℕ). unit_line a.known i (unit_at a.bytes.now i)) l.j (omega arith) l.invariant
    (rw c.unit_row-row.ensures at c.unit_line-end.ensures)
