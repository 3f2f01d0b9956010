use native.Mathlib.Omega.{arith}
use Rattle.record_lines.proofs.Puts.{all-at, part-fits, no-columns, column-more}
use Rattle.record_lines.proofs.put_numbers.Goals as goal

pub loop-n-init : goal.loop-n-init
loop-n-init c =
    let a = c.args in
    no-columns a.at a.width a.numbers.now a.buffer.now

pub put_number-end-requires : goal.put_number-end-requires
put_number-end-requires c =
    let l = c.loop-n in
    let e = l.invariant.ends in
    let h = part-fits c.args.width l.n-index _ c.loop-n-test.true in
    (c.requires.each_fits.0, (all-at c.requires.each_fits.1 l.n-index c.loop-n-test.true).0, omega arith)

pub loop-n-preserved : goal.loop-n-preserved
loop-n-preserved c =
    let l = c.loop-n in
    let h = part-fits c.args.width l.n-index _ c.loop-n-test.true in
    column-more c.args.width c.args.numbers.now l.n-index c.loop-n-test.true (omega arith) l.invariant
    c.put_number-end.ensures
