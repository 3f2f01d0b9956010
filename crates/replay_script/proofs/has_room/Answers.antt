use native.Mathlib.Omega.{arith}
use mathlib.Core.Path.{sym, ◌∙◌}
use borrow.Author.Tests.{lt-leb}
use Rattle.replay_script.specs.Script.{room_for}
use Rattle.replay_script.proofs.Laws.{no_head, taken_start, taken-end, taken-stop, taken-full, taken-on, next-on}
use Rattle.replay_script.proofs.has_room.Goals as goal

pub returns-then-most-lt17 : goal.returns-then-most-lt17
returns-then-most-lt17 c = sym (lt-leb (room_for c.args.script.now) c.args.most (omega arith))

pub loop-at-init : goal.loop-at-init
loop-at-init c = (omega arith, taken_start _)

pub returns-in_default : goal.returns-in_default
returns-in_default c =
    let l = c.loop-at in
    taken-stop _ l.at l.to _ l.invariant.1 l.invariant.0 (omega arith)
    (sym c.head_at.ensures ∙ no_head _ c.in_default.not-Some)

pub returns-then-most-to : goal.returns-then-most-to
returns-then-most-to c =
    let l = c.loop-at in
    let here = sym c.head_at.ensures ∙ c.in-Some.is in
    taken-full _ l.at l.to _ l.invariant.1 l.invariant.0 (omega arith) _ here (omega (arith, c.size-n.ensures))

pub loop-at-smaller : goal.loop-at-smaller
loop-at-smaller c = omega (arith, next-on c.in-Some.h c.loop-at.at, c.next_at-at.ensures)

pub loop-at-preserved : goal.loop-at-preserved
loop-at-preserved c =
    let l = c.loop-at in
    let here = sym c.head_at.ensures ∙ c.in-Some.is in
    let on = taken-on _ l.at l.to _ l.invariant.1 l.invariant.0 (omega arith) _ here in
    (omega arith, rw (c.next_at-at.ensures, c.size-n.ensures) on)

pub returns : goal.returns
returns c = let l = c.loop-at in taken-end _ l.at l.to _ l.invariant.1 l.invariant.0 (omega arith)
