use Prim.Native.Nat.{ℕ}
use native.Mathlib.Omega.{arith}
use mathlib.Core.Path.{ap}
use Rattle.rules.specs.declared.UnitRow.{UnitRow}
use Rattle.rules.specs.Reading.{unit_place, unit_at}
use Rattle.record_verify.specs.Totals.{packets_total, lost_total, damaged_total}
use Rattle.record_verify.proofs.Sums.{none_yet, one_more, all_done}
use Rattle.record_verify.proofs.unit_totals.Goals as goal

pub loop-j-init : goal.loop-j-init
unfolding packets_total lost_total damaged_total
loop-j-init c =
    let r = c.args.bytes.now in (
      omega arith,
      omega arith,
      omega arith,
      rw c.requires.counts.0 (none_yet (λ (k : ℕ). (unit_at r k).packets) _),
      rw c.requires.counts.0 (none_yet (λ (k : ℕ). (unit_at r k).lost) _),
      rw c.requires.counts.0 (none_yet (λ (k : ℕ). (unit_at r k).damaged) _),
    )

pub unit_row-row-requires : goal.unit_row-row-requires
unfolding unit_place
unit_row-row-requires c = omega arith

pub loop-j-preserved : goal.loop-j-preserved
loop-j-preserved c =
    let t = c.loop-j-test.true in
    let r = c.args.bytes.now in
    let e = c.unit_row-row.ensures in (
      omega arith,
      omega arith,
      omega arith,
      one_more (λ (k : ℕ). (unit_at r k).packets) _ c.loop-j.j _ _ _ c.loop-j.invariant.3 t
          (ap (λ (x : UnitRow). x.packets) e),
      one_more (λ (k : ℕ). (unit_at r k).lost) _ c.loop-j.j _ _ _ c.loop-j.invariant.4 t
          (ap (λ (x : UnitRow). x.lost) e),
      one_more (λ (k : ℕ). (unit_at r k).damaged) _ c.loop-j.j _ _ _ c.loop-j.invariant.5 t
          (ap (λ (x : UnitRow). x.damaged) e),
    )

pub returns : goal.returns
returns c =
    let r = c.args.bytes.now in
    record {
      packets = all_done (λ (k : ℕ). (unit_at r k).packets) _ _ _ _ c.loop-j.invariant.3 c.loop-j-test.false;
      lost = all_done (λ (k : ℕ). (unit_at r k).lost) _ _ _ _ c.loop-j.invariant.4 c.loop-j-test.false;
      damaged = all_done (λ (k : ℕ). (unit_at r k).damaged) _ _ _ _ c.loop-j.invariant.5 c.loop-j-test.false;
      few_packets = omega arith;
      few_lost = omega arith;
      few_damaged = omega arith;
    }
