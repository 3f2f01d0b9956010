use Rattle.std.proofs.Common.{◌≡◌, ◌+◌, ◌≤◌, ◌<◌, length, length-append, mul-le-mul, refl, rules, arith}
use Rattle.std.proofs.lemmas.Slice.Zip.{zip_turn, zip_end}
use Rattle.luma_changes.proofs.Laws.{sums-more, low-is}
use Rattle.luma_changes.proofs.sums.compare_run.Goals as goal

pub loop-a-preserved : goal.loop-a-preserved
loop-a-preserved c =
    let l = c.loop-a in
    let a = c.args in
    let n = length l.yielded in
    let turn = zip_turn a.kept.now a.made.now l.yielded _ _ c.next.new.self _ (search rules) (search rules)
    l.yielded_by _ c.in-Some.is c.next.ensures.steps in
    let at : n < length a.made.now = turn.1 in
    let old = turn.2 0 in
    let new = turn.3 0 in
    let here : 0 + n ≡ n = omega arith in
    let small : c.from-rise.result + c.from-fall.result ≤ 255 = omega arith in
    simp length-append
    (record {
      few = omega arith;
      up_few = omega arith;
      down_few = omega arith;
      high_few = omega (arith, mul-le-mul small small);
      sums = sums-more a.kept.now 0 a.made.now 0 n a.m l.up l.down l.all l.high _ _ l.invariant.sums (omega arith)
          (rw here (omega arith)) (rw here (omega arith)) refl;
    })

pub returns : goal.returns
returns c =
    let l = c.loop-a in
    let a = c.args in
    let end = zip_end a.kept.now a.made.now l.yielded _ _ c.next.new.self _ (search rules) (search rules)
    l.yielded_by c.in-None.is c.next.ensures.steps in
    let e : length l.yielded ≡ length a.made.now = omega arith in
    let is : c.from.result ≡ l.invariant.sums.low =
    low-is l.invariant.sums (omega arith) (omega arith) (omega arith) in
    rw (c.from-3.ensures, c.from-4.ensures, is, c.from-2.ensures, ← e) l.invariant.sums.compared
