use Rattle.std.proofs.Common.{◌≡◌, ◌+◌, length, min, length-take, length-drop, arith}
use Rattle.luma_changes.proofs.Laws.{compared-none}
use Rattle.luma_rows.proofs.Plain.{compared-more}
use Rattle.luma_rows.proofs.compare.Goals as goal

pub loop-c-init : goal.loop-c-init
loop-c-init c =
    let none : min 0 (length c.args.new.now) ≡ 0 = omega arith in
    rw none (compared-none _ _ _ _ _)

pub compare_run-sums-requires : goal.compare_run-sums-requires
compare_run-sums-requires c =
    record {
      same = simp (length-take, length-drop) (omega arith);
      few = simp (length-take, length-drop) (omega arith);
    }

pub loop-c-smaller : goal.loop-c-smaller
loop-c-smaller c = omega arith

pub loop-c-preserved : goal.loop-c-preserved
loop-c-preserved c =
    let e : min (c.loop-c.c + 240) (length c.args.new.now) ≡ c.loop-c.c + c.min-t.result = omega arith in
    rw e (compared-more _ _ c.loop-c.invariant (omega arith) c.compare_run-sums.ensures)

pub returns : goal.returns
returns c =
    let e : min c.loop-c.c (length c.args.new.now) ≡ length c.args.new.now = omega arith in
    rw e at c.loop-c.invariant

pub returns-2 : goal.returns-2
returns-2 c =
    let e : length c.args.new.now ≡ c.loop-c.c + c.min-t.result = omega arith in
    rw e (compared-more _ _ c.loop-c.invariant (omega arith) c.compare_run-sums.ensures)
