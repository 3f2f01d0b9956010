-- `luma_piece` meets its contract: 1 is tried first, then what the greatest number is refused by.
use mathlib.Core.Path.{sym, ◌∙◌}
use Rattle.rules.proofs.Laws.Answers.{passed-on}
use Rattle.luma_busiest.proofs.Laws.Answers.{answered, wrong_size, refused-as, filled}
use Rattle.luma_busiest.proofs.luma_piece.Goals as goal

pub returns-then-not-good_size : goal.returns-then-not-good_size
returns-then-not-good_size c =
    let post = wrong_size _ _ _ _ _ _ (sym c.good_size.ensures ∙ c.if-not-good_size.true) in
    record { answered = post.0; bytes = post.1 }

pub returns-in_err-most_scenes : goal.returns-in_err-most_scenes
returns-in_err-most_scenes c =
    let size = sym c.good_size.ensures ∙ c.if-not-good_size.false in
    let passed = passed-on c.from_residual.result _ c.from_residual.ensures.1 in
    let post = refused-as _ _ _ _ _ _ size _ (sym c.most_scenes.ensures ∙ c.in_err-most_scenes.was) in
    rw passed (record { answered = post.0; bytes = post.1 })

pub fill_pictures-requires : goal.fill_pictures-requires
fill_pictures-requires c =
    let size = sym c.good_size.ensures ∙ c.if-not-good_size.false in
    let passed = answered _ _ _ (sym c.most_scenes.ensures ∙ c.in_ok-most_scenes.was) in
    record { good_size = size; good_time = passed.0; few_pictures = passed.1 }

pub returns : goal.returns
returns c =
    let size = sym c.good_size.ensures ∙ c.if-not-good_size.false in
    let made = c.fill_pictures.ensures in
    let post =
    filled _ _ _ _ _ _ size _ _ _ (sym c.most_scenes.ensures ∙ c.in_ok-most_scenes.was) made.length made.bytes in
    record { answered = post.0; bytes = post.1 }
