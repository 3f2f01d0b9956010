-- Demand 3's theorem, of the run that `all` made.
use Prim.Native.Nat.{ℕ, ◌-◌}
use native.Mathlib.Omega.{arith}
use mathlib.Core.List.{List}
use lib.ListN.{length}
use Rattle.replay.proofs.Laws.{replays, no_room, kept-promise, answer-fits}
use Rattle.replay.proofs.replay.Goals as goal

pub returns-then-not-has_room : goal.returns-then-not-has_room
returns-then-not-has_room c = no_room _ _ _ c.has_room.ensures c.if-not-has_room.true

pub put-requires : goal.put-requires
put-requires c =
    answer-fits c.args.script.now c.args.out.now _
    c.has_room.ensures c.if-not-has_room.false

pub slice_bounds-all-count : goal.slice_bounds-all-count
slice_bounds-all-count c =
    omega (
      arith,
      answer-fits c.args.script.now c.args.out.now _
          c.has_room.ensures c.if-not-has_room.false,
    )

pub slice_bounds-all-start : goal.slice_bounds-all-start
slice_bounds-all-start c =
    omega (
      arith,
      answer-fits c.args.script.now c.args.out.now _
          c.has_room.ensures c.if-not-has_room.false,
    )

pub returns : goal.returns
returns c =
    let script : List ℕ = c.args.script.now in
    let out : List ℕ = c.args.out.now in
    let front : List ℕ = c.put.new.out in
    let asked = c.has_room.ensures in
    let there = c.if-not-has_room.false in
    let room = answer-fits script out _ asked there in
    let opened = rw c.opening.ensures at c.open-a.ensures in
    kept-promise script out _ _ asked there (replays _ _ script out front _ (length front - 17) opened room
    c.put.ensures (omega arith) c.all.ensures)
