-- The refusals of a survey's calls: none of them is renumbered.
use Prim.Native.Nat.{ℕ}
use mathlib.Core.Path.{◌≡◌}
use mathlib.Core.List.{List}
use Rattle.rules.specs.Capture.{format_fault}
use Rattle.rules.specs.Survey.{good_packets, identifiers, with_most, survey_feed_answer, survey_fault}
use Rattle.rules.specs.Survey.{survey_answer}
use Rattle.rules.proofs.Laws.Listed.{format, survey}
use Rattle.c_numbers.specs.Numbers.{number_of}
use Rattle.c_numbers.proofs.Refusals.{number_in, of-answer}

pub survey-feed-number : (c : List ℕ) (n : ℕ) → number_of (survey_feed_answer c n) ≡ number_in (format_fault c)
unfolding survey_feed_answer
survey-feed-number c n = of-answer (format_fault c) n (format c)

pub survey-number : (c : List ℕ) → number_of (survey_answer c) ≡
    number_in (survey_fault c (good_packets c (with_most (good_packets c) identifiers)))
unfolding survey_answer
survey-number c =
    let best = with_most (good_packets c) identifiers in
    of-answer (survey_fault c (good_packets c best)) _ (survey c (good_packets c best))
