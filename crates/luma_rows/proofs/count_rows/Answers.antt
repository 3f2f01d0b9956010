use Rattle.std.proofs.Common.{◌≡◌, ◌+◌, ◌-◌, arith}
use Rattle.luma_rows.proofs.Plain.{counted_none, counted-more}
use Rattle.luma_rows.proofs.Rows.{line-room}
use Rattle.luma_rows.proofs.count_rows.Goals as goal

pub loop-r-init : goal.loop-r-init
loop-r-init c =
    let none : c.args.s.line - c.args.s.line ≡ 0 = omega arith in
    rw none (counted_none _ _ _ _ _ _)

pub count_row-requires : goal.count_row-requires
count_row-requires c =
    let p = c.requires in
    let a = c.args in
    record {
      boundary = p.0.boundary;
      boundary_2 = p.0.boundary_2;
      wide = omega arith;
      few = omega arith;
      inside = omega arith;
      low = omega arith;
      slot = omega arith;
      there = omega (arith, line-room a.g c.loop-r.r (omega arith));
    }

pub loop-r-preserved : goal.loop-r-preserved
loop-r-preserved c =
    let a = c.args in
    let l = c.loop-r in
    let here : l.r ≡ a.s.line + (l.r - a.s.line) = omega arith in
    let next : l.r + 1 - a.s.line ≡ l.r - a.s.line + 1 = omega arith in
    rw next
    (counted-more l.invariant (rw here at c.count_row.ensures) (omega (
      arith,
      line-room a.g (a.s.line + (l.r - a.s.line)) (omega arith),
    )))

pub returns : goal.returns
returns c =
    let e : c.loop-r.r - c.args.s.line ≡ c.args.j = omega arith in
    rw (e, c.slot_of-own.ensures.0) at c.loop-r.invariant
