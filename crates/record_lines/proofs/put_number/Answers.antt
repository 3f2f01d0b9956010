-- `put_number` meets its contract. Assumes nothing.
use native.Mathlib.Omega.{arith}
use borrow.Author.Rules.{rules}
use Rattle.record_lines.proofs.Puts.{digits-fit, number_put}
use Rattle.record_lines.proofs.put_number.Goals as goal

pub overflow_sub-width : goal.overflow_sub-width
overflow_sub-width c =
    let a = c.args in let d = c.decimal-k in let e = d.ensures in
    let k = digits-fit a.n a.width _ _ c.requires.0 c.requires.1 c.ranges.n.fits e.in_bounds e.len e.digits in
    omega arith

pub put_spaces-start-requires : goal.put_spaces-start-requires
put_spaces-start-requires c =
    let a = c.args in let d = c.decimal-k in let e = d.ensures in
    let k = digits-fit a.n a.width _ _ c.requires.0 c.requires.1 c.ranges.n.fits e.in_bounds e.len e.digits in
    omega arith

pub put_text-requires : goal.put_text-requires
put_text-requires c =
    let a = c.args in let d = c.decimal-k in let e = d.ensures in
    let k = digits-fit a.n a.width _ _ c.requires.0 c.requires.1 c.ranges.n.fits e.in_bounds e.len e.digits in
    omega arith

pub returns : goal.returns
returns c = search (rules, number_put)
