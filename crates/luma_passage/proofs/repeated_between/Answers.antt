use Prim.Native.Nat.{◌+◌, ◌-◌, ◌*◌, ◌/◌, min, max}
use native.Mathlib.Omega.{arith}
use mathlib.Core.Path.{◌≡◌}
use Rattle.rules.proofs.Laws.Passage.{repeated-end}
use Rattle.luma_passage.proofs.Laws.{Counted, counted-more, counted-all}
use Rattle.luma_passage.proofs.repeated_between.Goals as goal

pub returns-then-b-gt-PICTURES : goal.returns-then-b-gt-PICTURES
returns-then-b-gt-PICTURES c =
    let a = c.args in
    let none = c.then-b-gt-PICTURES.either in
    record {
      most = omega arith;
      repeated = λ rs m k l.
          let few = m.few in
          let same : a.a ≡ a.b = omega arith in
          omega (arith, repeated-end a.a a.b rs (omega arith));
    }

pub loop-j-init : goal.loop-j-init
loop-j-init c =
    let a = c.args in
    let first : min a.b (max a.a (64 * (a.a / 64))) ≡ a.a = omega arith in
    (omega arith, λ rs m k l. rw first (omega arith))

pub ones_within-found-requires : goal.ones_within-found-requires
ones_within-found-requires c = (omega arith, omega arith)

pub loop-j-preserved : goal.loop-j-preserved
loop-j-preserved c =
    let s = c.args in
    let l = c.loop-j in
    let from = c.max-from.result in
    let to = c.min-to.result in
    let ones = c.ones_within-found in
    let word : from / 64 ≡ l.j = omega arith in
    let here : min s.b (max s.a (64 * l.j)) ≡ from = omega arith in
    let next : min s.b (max s.a (64 * (l.j + 1))) ≡ to = omega arith in
    let last : from + (to - from) ≡ to = omega arith in
    let more : Counted s.luma.now s.a s.b (l.found + ones.result) (from + (to - from)) =
    counted-more s.luma.now s.a s.b l.found from (to - from) ones.result (rw here at l.invariant.1)
    (omega arith) (omega arith) (omega arith) (rw word ones.ensures.1) in
    (omega arith, rw (next, ← last) more)

pub returns : goal.returns
returns c =
    let s = c.args in
    let l = c.loop-j in
    record {
      most = omega arith;
      repeated = counted-all s.luma.now s.a s.b l.found (min s.b (max s.a (64 * l.j))) l.invariant.1 (omega arith);
    }
