use Rattle.figures.specs.Opening.{numbered}
use Rattle.std.proofs.Common.{ap, ◌∙◌}
use Rattle.luma_state.proofs.Kept.{fits-of}
use Rattle.luma.proofs.Posts.{feed-stopped, feed-forged, wrong-opening, wrong-place, feed-post}
use Rattle.luma.proofs.feed.Goals as goal

pub returns-then-s-ne0 : goal.returns-then-s-ne0
returns-then-s-ne0 c = feed-stopped _ c.load-s.ensures c.if-s-ne0.true

pub returns-then-wrong-ne0 : goal.returns-then-wrong-ne0
returns-then-wrong-ne0 c =
    feed-forged _ c.load-s.ensures (wrong-opening _ c.load-s.ensures _
    c.if-s-ne0.false (rw c.opening_in-o.ensures at
    c.opening_fault-wrong.ensures) c.if-wrong-ne0.true)

pub returns-then-not-placed : goal.returns-then-not-placed
returns-then-not-placed c =
    let g = rw c.opening_in-o.ensures at c.grid_of-g.ensures in
    feed-forged _ c.load-s.ensures (wrong-place _ c.load-s.ensures _ c.if-s-ne0.false g
    c.placed.ensures c.if-not-placed.true)

pub run-r-requires : goal.run-r-requires
run-r-requires c = (
  rw c.grid_of-g.ensures (fits-of c.opening_in-o.result
      (c.opening_fault-wrong.ensures.shown ∙ ap numbered c.if-wrong-ne0.false)),
  c.placed.ensures.sound c.if-not-placed.false,
)

pub returns : goal.returns
returns c =
    let g = rw c.opening_in-o.ensures at c.grid_of-g.ensures in
    feed-post _ c.load-s.ensures _ c.if-s-ne0.false g c.run-r.ensures
    c.store.ensures c.reply.ensures
