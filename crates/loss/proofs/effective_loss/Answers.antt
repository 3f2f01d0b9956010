-- The rule tries 22 and 23 in this order, as the code does.
use native.Mathlib.Omega.{arith}
use mathlib.Core.Path.{sym, ◌∙◌}
use lib.ListN.{length}
use Rattle.rules.specs.EffectiveLoss.{both, loss_answer, loss_fault, filled}
use Rattle.loss.proofs.Steps.{zero_is, lengths-are, done-answer, done-lists}
use Rattle.loss.proofs.effective_loss.Goals as goal

pub returns-then-not-good_lengths : goal.returns-then-not-good_lengths
unfolding loss_answer loss_fault filled
returns-then-not-good_lengths c =
    let bad = sym c.good_lengths.ensures ∙ c.if-not-good_lengths.true in
    record { answer = simp bad; lists = simp bad }

pub returns-then-not-are_probabilities : goal.returns-then-not-are_probabilities
unfolding loss_answer loss_fault filled
returns-then-not-are_probabilities c =
    let good = sym c.good_lengths.ensures ∙ c.if-not-good_lengths.false in
    let bad = sym c.are_probabilities.ensures ∙ c.if-not-are_probabilities.true in
    record { answer = simp (good, bad); lists = simp (good, bad) }

pub spread-requires : goal.spread-requires
spread-requires c =
    let a = c.args in
    let good = sym c.good_lengths.ensures ∙ c.if-not-good_lengths.false in
    let long = lengths-are a.n (length a.losses.now) (length a.probabilities.now) (length a.keys.now)
    (length a.plain.now) good in
    record {
      probable = omega arith;
      key_frames = omega (arith, c.fill.ensures.len);
      plains = omega (arith, c.fill-2.ensures.len);
    }

pub returns : goal.returns
returns c =
    let a = c.args in
    let before = both a.keys.now a.plain.now in
    let good = sym c.good_lengths.ensures ∙ c.if-not-good_lengths.false in
    let probable = sym c.are_probabilities.ensures
    ∙ c.if-not-are_probabilities.false in
    record {
      answer = done-answer a.n a.losses.now a.probabilities.now before good probable;
      lists = done-lists a.n a.losses.now a.probabilities.now before good probable _ _ _
          c.spread.ensures (rw (← zero_is) (c.fill.ensures.after (λ y h. h)))
          (rw (← zero_is) (c.fill-2.ensures.after (λ y h. h)));
    }
