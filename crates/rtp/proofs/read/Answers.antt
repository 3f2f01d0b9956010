use native.Mathlib.Omega.{arith}
use mathlib.Core.Path.{sym, ◌∙◌}
use borrow.Author.Rules.{rules}
use Rattle.rules.specs.Rtp.{rtp_lists}
use Rattle.rtp.proofs.Answers.{good-lists, bad-lists}
use Rattle.rtp.proofs.read.Goals as goal

pub returns-then-not-good_lists : goal.returns-then-not-good_lists
returns-then-not-good_lists c = search (rules, bad-lists)

pub read_good-requires : goal.read_good-requires
read_good-requires c =
    record {
      good_lists = sym c.good_lists.ensures ∙ c.if-not-good_lists.false;
      room = omega arith;
    }

pub invariant_of-lists : goal.invariant_of-lists
invariant_of-lists c =
    let a = c.args in
    let g = good-lists a.sequence.now (rtp_lists a.marker.now a.time.now a.size.now)
    (sym c.good_lists.ensures ∙ c.if-not-good_lists.false) in
    record { as_many = (g.time ∙ sym g.marker, g.size ∙ sym g.marker) }
