use Rattle.std.proofs.Common.{◌-◌, ◌+◌, ◌≤◌, ◌*◌, get_or, arith, length-set, rules}
use Rattle.rules.specs.Rtp.{wrapped}
use Rattle.rtp_order.proofs.Rows.{moved-high, rows_start, rows_more, rows_end}
use Rattle.rtp_order.proofs.Firsts.{moved-low}
use Rattle.rtp_order.proofs.arrival.put_rows.Goals as goal

pub loop-i-init : goal.loop-i-init
loop-i-init c =
    let s = c.args.sequence.now in (
      simp length-set c.requires.as_many,
      omega arith,
      omega (arith, c.type_inv.sequence 0),
      rw c.from-place.ensures (rows_start s c.args.rows.now c.requires.row_count.0 c.requires.as_many),
    )

-- A row's place is at most 32,768 from the one before.
pub loop-i-preserved : goal.loop-i-preserved
loop-i-preserved c =
    let s = c.args.sequence.now in
    let l = c.loop-i in
    let p = c.moved-place.result in
    let d = wrapped (get_or s l.i 0) l.last in
    let low : 134250496 ≤ p + 32768 * (l.i + 1) =
    omega (arith, c.moved-place.ensures, moved-low l.place d (l.place - 32768) (omega arith) (omega arith)) in
    let high : p ≤ 134283263 + 32768 * (l.i + 1) =
    omega (arith, c.moved-place.ensures, moved-high l.place d (l.place + 32767) (omega arith)) in (
      simp length-set l.invariant.0,
      low,
      high,
      rows_more s l.rows l.i l.place l.last (omega arith) l.invariant.0 _ l.invariant.3 p c.moved-place.ensures,
    )

pub returns : goal.returns
returns c = search (rules, rows_end)
