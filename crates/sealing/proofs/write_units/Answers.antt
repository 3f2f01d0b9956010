use Prim.Native.Nat.{ℕ}
use native.Mathlib.Omega.{arith}
use mathlib.Core.Path.{◌≡◌, subst}
use Rattle.rules.specs.Record.{scene_offset}
use Rattle.rules.specs.Reading.{unit_place}
use Rattle.sealing.specs.Contract.{UnitsWritten}
use Rattle.sealing.proofs.Rows.{units-none, units-more}
use Rattle.sealing.proofs.write_units.Goals as goal

pub loop-j-init : goal.loop-j-init
loop-j-init c = (units-none _ _)

pub overflow_mul-at : goal.overflow_mul-at
unfolding scene_offset
overflow_mul-at c = omega arith

pub overflow_add-at : goal.overflow_add-at
unfolding scene_offset
overflow_add-at c = omega arith

pub write_unit-requires : goal.write_unit-requires
unfolding scene_offset unit_place
write_unit-requires c = omega arith

pub loop-j-preserved : goal.loop-j-preserved
unfolding scene_offset unit_place
loop-j-preserved c =
    let l = c.loop-j in
    let w = c.write_unit in
    units-more c.args.table.now l.j c.args.buffer.now l.buffer w.new.buffer (omega arith) c.row-row.result
    l.invariant c.row-row.ensures w.ensures

pub returns : goal.returns
unfolding scene_offset unit_place
returns c =
    let l = c.loop-j in
    let e : l.j ≡ c.args.n = omega arith in
    subst (λ (k : ℕ). UnitsWritten c.args.table.now k c.args.buffer.now l.buffer) e l.invariant
