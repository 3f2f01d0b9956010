-- The refusals of the calls beside the sample: none of them is renumbered; and those of losses, which give no place,
-- stand at 0.
use Prim.Native.Nat.{ℕ}
use mathlib.Core.Path.{◌≡◌, refl}
use mathlib.Core.List.{List}
use lib.ListN.{length}
use lib.Dec.{leb}
use lib.Ieee.{Float}
use Rattle.rules.specs.Refusals.{unless, ◌or_else◌}
use Rattle.rules.specs.Seal.{no_room}
use Rattle.rules.specs.EffectiveLoss.{Lists, good_lengths, are_probabilities, loss_fault, loss_answer}
use Rattle.rules.specs.GapRuns.{entry_count, gap_fault, gap_answer}
use Rattle.rules.specs.Busiest.{most_scenes, most_fault, most_answer, busiest_fault, busiest_part, busiest_answer}
use Rattle.rules.specs.Rtp.{RtpLists, rtp_units, rtp_fault, rtp_answer}
use Rattle.rules.proofs.Laws.Listed.{of_either, of-unless, room, most, busiest, rtp}
use Rattle.c_numbers.specs.Numbers.{number_of}
use Rattle.c_numbers.proofs.Refusals.{number_in, of-answer, Unplaced, unplaced-either, unplaced-unless}

-- ---- how far a loss spreads

module _ (n : ℕ) (losses : List ℕ) (probabilities : List Float) (l : Lists) where
  pub loss-number : number_of (loss_answer n losses probabilities l) ≡ number_in (loss_fault n losses probabilities l)
  unfolding loss_answer loss_fault
  loss-number =
      let good = good_lengths n (length losses) (length probabilities) (length l.key_frame) (length l.plain) in
      let probable = are_probabilities probabilities in
      of-answer (unless good 22 or_else unless probable 23) n
      (of_either (unless good 22) (unless probable 23) (of-unless good 22 refl) (of-unless probable 23 refl))

  pub loss-unplaced : Unplaced (loss_fault n losses probabilities l)
  unfolding loss_fault
  loss-unplaced =
      let good = good_lengths n (length losses) (length probabilities) (length l.key_frame) (length l.plain) in
      let probable = are_probabilities probabilities in
      unplaced-either (unless good 22) (unless probable 23) (unplaced-unless good 22) (unplaced-unless probable 23)

-- ---- what a lost count can hide

pub gap-number : (n m : ℕ) → number_of (gap_answer n m) ≡ number_in (gap_fault n m)
unfolding gap_answer gap_fault
gap-number n m =
    let size = entry_count n in
    of-answer (unless (leb n 15) 24 or_else no_room m size) size
    (of_either (unless (leb n 15) 24) (no_room m size) (of-unless (leb n 15) 24 refl) (room m size))

-- ---- the busiest sample

pub most-number : (d n : ℕ) → number_of (most_answer d n) ≡ number_in (most_fault d n)
unfolding most_answer
most-number d n = of-answer (most_fault d n) (most_scenes d n) (most d n)

pub busiest-number : (w h d n at size : ℕ) →
    number_of (busiest_answer w h d n at size) ≡ number_in (busiest_fault w h d n)
unfolding busiest_answer
busiest-number w h d n at size =
    of-answer (busiest_fault w h d n) (length (busiest_part w h d n at size)) (busiest w h d n)

-- ---- small-screen streams

pub rtp-number : (sequence : List ℕ) (l : RtpLists) (room : ℕ) →
    number_of (rtp_answer sequence l room) ≡ number_in (rtp_fault sequence l room)
unfolding rtp_answer
rtp-number sequence l room =
    of-answer (rtp_fault sequence l room) (length (rtp_units sequence l)) (rtp sequence l room)
