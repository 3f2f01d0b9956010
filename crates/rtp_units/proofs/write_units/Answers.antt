use Rattle.rtp_order.specs.Order.{Stayed}
use Prim.Native.Nat.{ℕ, ◌+◌, ◌-◌, ◌*◌, ◌≤◌, ◌<◌}
use native.Mathlib.Omega.{arith}
use mathlib.Core.List.{List}
use mathlib.Core.Path.{◌≡◌, refl, sym, ap, ◌∙◌}
use lib.ListN.{get_or, length}
use Rattle.rules.specs.Record.{unit_bytes}
use Rattle.rules.specs.Rtp.{arrival_of, missing_at, rtp_row_at, rtp_units_in}
use Rattle.rtp_units.specs.Units.{rows_bytes, told}
use Rattle.words.proofs.Behind.{over-written}
use Rattle.words.specs.Written.{written}
use Rattle.rules.specs.Bytes.{total, table}
use Rattle.rules.specs.declared.UnitRow.{UnitRow}
use Rattle.rtp_units.proofs.Units.{with, onto-units, all-at, missing-step, missing-most, room-put, rows-put}
use Rattle.rtp_units.proofs.Units.{room-more, rows_more, rows_written}
use Rattle.rtp_units.proofs.write_units.Goals as goal
use Rattle.rtp_units.proofs.write_units.Goals.{then-ends, else-ends}

-- the row's number is one of the lists'
there : (m : ℕ) (rows : List ℕ) (i : ℕ) → Stayed m rows → i < length rows → arrival_of (get_or rows i 0) < m
there m rows i stayed inside = (all-at rows i stayed.each inside).number

pub loop-i-init : goal.loop-i-init
loop-i-init c =
    let rows = c.args.rows.now in
    let k = told c.args.lists.now in (
      omega arith,
      omega arith,
      omega (arith, missing-most (length c.args.lists.now.marker.now) rows c.requires.stayed.1),
      refl,
      omega (arith, ap (λ (us : List UnitRow). length us) (onto-units k rows)),
      ap (λ (us : List UnitRow). written 0 (rows_bytes us) c.args.buffer.now) (onto-units k rows) ∙ over-written
          (rows_bytes (rtp_units_in k rows)) c.args.buffer.now,
    )

pub bounds-time-k : goal.bounds-time-k
bounds-time-k c = omega
    (arith, there (length c.args.lists.now.marker.now) c.args.rows.now c.loop-i.i c.requires.stayed.1 (omega arith))

pub bounds-size-k : goal.bounds-size-k
bounds-size-k c = omega
    (arith, there (length c.args.lists.now.marker.now) c.args.rows.now c.loop-i.i c.requires.stayed.1 (omega arith))

pub joined-unit-requires : goal.joined-unit-requires
joined-unit-requires c = (
  omega (arith, c.type_inv.size c.number-k.result),
  omega arith,
  omega (arith, missing-step c.args.rows.now c.loop-i.i (omega arith)),
)

pub overflow_mul-j : goal.overflow_mul-j
overflow_mul-j c =
    let e = sym c.ends.ensures ∙ c.if-ends.true in
    let k = told c.args.lists.now in
    let room = room-put k c.args.rows.now c.loop-i.i c.loop-i.unit c.loop-i.j c.loop-i.buffer _ (omega arith)
    c.loop-i.invariant.5 c.loop-i-test.true e in
    omega (arith, c.loop-i.invariant.3, c.well_formed)

pub write_unit-requires : goal.write_unit-requires
write_unit-requires c =
    let e = sym c.ends.ensures ∙ c.if-ends.true in
    let k = told c.args.lists.now in
    let room = room-put k c.args.rows.now c.loop-i.i c.loop-i.unit c.loop-i.j c.loop-i.buffer _ (omega arith)
    c.loop-i.invariant.5 c.loop-i-test.true e in
    omega (arith, c.loop-i.invariant.3, c.well_formed)

pub overflow_add-j : goal.overflow_add-j
overflow_add-j c =
    let e = sym c.ends.ensures ∙ c.if-ends.true in
    let k = told c.args.lists.now in
    let room = room-put k c.args.rows.now c.loop-i.i c.loop-i.unit c.loop-i.j c.loop-i.buffer _ (omega arith)
    c.loop-i.invariant.5 c.loop-i-test.true e in
    omega (arith, c.loop-i.invariant.3, c.well_formed)

pub loop-i-preserved : goal.loop-i-preserved
loop-i-preserved c =
    let rows = c.args.rows.now in
    let k = told c.args.lists.now in
    let l = c.loop-i in
    let v = l.invariant in
    let inside = c.loop-i-test.true in
    let joins = c.joined-unit.ensures in
    let made : c.joined-unit.result ≡ with l.unit (rtp_row_at k rows l.i) =
    joins ∙ rw (c.number-k.ensures.0, c.missing.ensures) in
    let packets : c.joined-unit.result.packets ≤ l.i + 1 = omega (arith, ap (λ (u : UnitRow). u.packets) joins) in
    let size : c.joined-unit.result.size ≤ 65535 * (l.i + 1) =
    omega (arith, ap (λ (u : UnitRow). u.size) joins, c.type_inv.size c.number-k.result) in
    let lost : c.joined-unit.result.lost
    + total (table (length rows - (l.i + 1)) (l.i + 1) (missing_at rows)) < 536870912 =
    omega (
      arith,
      ap (λ (u : UnitRow). u.lost) joins,
      c.missing.ensures,
      missing-step rows l.i (omega arith),
    ) in
    elim c.if-ends.branch [
      | then-ends w ↦
          let e = sym c.ends.ensures ∙ w.if-ends.true in
          rw (w.unit-is, w.j-is, w.buffer-is) (
            omega arith,
            omega arith,
            omega arith,
            w.write_unit.auto.buffer ∙ v.3,
            omega (arith, room-put k rows l.i l.unit l.j l.buffer _ (omega arith) v.5 inside e),
            rows-put k rows l.i l.unit l.j l.buffer _ (omega arith) v.5 inside e _
                (w.write_unit.ensures ∙ ap (λ (u : UnitRow). written (32 * l.j) (unit_bytes u) l.buffer) made),
          )
      | else-ends w ↦
          let e = sym c.ends.ensures ∙ w.if-ends.false in
          rw (w.unit-is, w.j-is, w.buffer-is) (
            packets,
            size,
            lost,
            v.3,
            rw made (omega (arith, room-more k rows l.i l.unit l.j l.buffer _ (omega arith) v.5 inside e)),
            rw made (rows_more k rows l.i l.unit l.j l.buffer _ (omega arith) v.5 inside e),
          )
    ]

pub shape_of-buffer : goal.shape_of-buffer
shape_of-buffer c = c.loop-i.invariant.3

pub returns : goal.returns
returns c =
    let rows = c.args.rows.now in
    let k = told c.args.lists.now in
    rows_written k rows c.loop-i.i c.loop-i.unit c.loop-i.j c.loop-i.buffer _
    (omega (arith, c.loop-i.invariant.3)) c.loop-i.invariant.5 (omega arith)
