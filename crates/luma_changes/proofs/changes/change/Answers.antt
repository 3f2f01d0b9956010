-- `change` meets its contract: the tests leave only numbers that a picture can give, for which 64 bits are enough.
use Rattle.std.proofs.Common.{◌≤◌, arith}
use Rattle.rules.specs.Changes.{change_from, nearest}
use Rattle.luma_changes.proofs.Roots.{asked, asked-four, spread-few, root-few}
use Rattle.luma_changes.proofs.changes.change.Goals as goal

pub overflow_mul-v : goal.overflow_mul-v
overflow_mul-v c =
    let a = c.args in
    omega (arith, spread-few a.n a.up a.down a.squares (omega arith) (omega arith))

pub root-requires : goal.root-requires
root-requires c =
    let a = c.args in
    let some : 1 ≤ a.n = omega arith in
    rw (c.spread-v.ensures, c.from.ensures)
    (asked-four a.n a.up a.down a.squares some (omega arith) (omega arith))

pub returns-then-rounds : goal.returns-then-rounds
unfolding change_from nearest
returns-then-rounds c =
    let wide = c.from.ensures in let spread = c.spread-v.ensures in
    record
    { exact = λ a b h. rw (c.root.ensures.0, wide, spread, c.if-rounds.true); few = omega arith }

pub root-requires-2 : goal.root-requires-2
root-requires-2 c =
    let a = c.args in
    let some : 1 ≤ a.n = omega arith in
    rw (c.spread-v.ensures, c.from-2.ensures)
    (asked a.n a.up a.down a.squares some (omega arith) (omega arith))

pub returns : goal.returns
unfolding change_from
returns c =
    let a = c.args in
    let some : 1 ≤ a.n = omega arith in
    let wide = c.from-2.ensures in
    let spread = c.spread-v.ensures in
    record {
      exact = λ x y h. rw (c.root-2.ensures.0, wide, spread, c.if-rounds.false);
      few = rw (c.root-2.ensures.0, wide, spread) (root-few a.n a.up a.down a.squares some (omega arith)
          (omega arith));
    }
