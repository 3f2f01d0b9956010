use Prim.Native.Nat.{ℕ, ◌+◌, ◌-◌, ◌≤◌}
use native.Mathlib.Omega.{arith}
use mathlib.Core.Path.{refl, sym, ap, ◌∙◌}
use lib.ListN.{length}
use borrow.Rule.Slice.PartMut.{same_len_mid, mid_len}
use Rattle.replay_script.proofs.Laws.{no_head}
use Rattle.replay.proofs.Laws.{start, go_on, stops, full, finish}
use Rattle.replay.proofs.all.Goals as goal

pub loop-at-init : goal.loop-at-init
loop-at-init c = (omega arith, refl, start _ _ _)

pub shape_of-out-in_default : goal.shape_of-out-in_default
shape_of-out-in_default c = c.loop-at.invariant.1

pub returns-in_default : goal.returns-in_default
returns-in_default c =
    let l = c.loop-at in
    stops _ _ _ l.at l.to _ _ l.invariant.2 (omega arith) (sym c.head_at.ensures ∙ no_head _ c.in_default.not-Some)

pub returns-then-out-to : goal.returns-then-out-to
returns-then-out-to c =
    let l = c.loop-at in
    let here = sym c.head_at.ensures ∙ c.in-Some.is in
    full _ _ _ l.at l.to _ _ l.invariant.2 (omega arith) _ _ here (omega (arith, c.size-n.ensures)) (omega arith)

pub call-requires : goal.call-requires
call-requires c =
    let l = c.loop-at in
    record {
      here = sym c.in-Some.is ∙ c.head_at.ensures;
      inside = omega arith;
      size = mid_len l.to (l.to + c.size-n.result) l.out (omega arith) ∙ omega (arith, c.size-n.ensures);
    }

pub loop-at-preserved : goal.loop-at-preserved
loop-at-preserved c =
    let l = c.loop-at in
    let end = l.to + c.size-n.result in
    let room : end ≤ length l.out = omega arith in
    let part = c.call.new.out in
    let kept = c.call.auto.out in
    let same = same_len_mid l.to (end - l.to) l.out part kept in
    let here = sym c.head_at.ensures ∙ c.in-Some.is in (
      rw same room,
      same ∙ l.invariant.1,
      go_on _ _ _ l.at l.to _ _ l.invariant.2 (omega arith) c.in-Some.h _ end _ part here
          (ap (λ (n : ℕ). l.to + n) c.size-n.ensures) room
          (kept ∙ mid_len l.to end l.out room) (rw c.next_at-at.ensures c.call.ensures),
    )

pub shape_of-out : goal.shape_of-out
shape_of-out c = c.loop-at.invariant.1

pub returns : goal.returns
returns c = let l = c.loop-at in finish _ _ _ l.at l.to _ _ l.invariant.2 (omega arith)
