-- `spread` meets its contract: a difference that would fall below 0 is 0 in the rule as well.
use Rattle.std.proofs.Common.{◌≡◌, ◌<◌, rules, refl, arith}
use Rattle.rules.specs.Bytes.{apart}
use Rattle.luma_changes.specs.Changes.{spread_of}
use Rattle.figures.proofs.Products.{product}
use Rattle.luma_changes.proofs.changes.spread.Goals as goal

pub overflow_mul-square : goal.overflow_mul-square
overflow_mul-square c =
    let few : c.from-sum.result < 4294967296 = omega arith in
    product few few

pub overflow_mul-all : goal.overflow_mul-all
overflow_mul-all c =
    let n : c.from.result < 4294967296 = omega arith in
    let squares : c.from-2.result < 4294967296 = omega arith in
    product n squares

pub returns : goal.returns
unfolding spread_of
returns c =
    let sum : c.abs_diff.result ≡ apart c.args.up c.args.down = search rules in
    rw (c.saturating_sub.ensures, c.from.ensures, c.from-2.ensures, c.from-sum.ensures, sum) refl
