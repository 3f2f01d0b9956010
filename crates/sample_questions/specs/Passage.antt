-- What `repeats` promises (document 02, R-12).
use Rattle.std.specs.Prelude.{ℕ, ◌-◌, ◌≤◌, ◌≡◌, List, Ok}
use Rattle.rules.specs.Refusals.{Answer, ◌or_else◌}
use Rattle.rules.specs.Opening.{opening_fault}
use Rattle.rules.specs.Passage.{passage_fault}
use Rattle.rules.specs.Calls.{repeats, counted, refusal_of}
use Rattle.capture.specs.State.{Arrays}
use Rattle.luma_state.specs.State.{opening_in}
use Rattle.luma.specs.Contract.{totals_in}
use Rattle.sample_questions.specs.Contract.{Asked}

-- the luma words, a and b, the answer
pub record RepeatsPost (luma : List ℕ) (a b : ℕ) (r : Answer ℕ) : Type 0 where
  -- whatever stands in the capture side's arrays, it is the rule's reply
  pub asked : (capture : Arrays) → Asked (record { capture = capture; luma = luma }) (repeats a b) (counted r)
  -- of any state: it is refused exactly as the rule says of the opening and the number of pictures that stand in the
  -- words, and counts no more than the passage has pictures
  pub refusal : refusal_of r ≡ (opening_fault (opening_in luma) or_else passage_fault (totals_in luma).pictures a b)
  pub most : (m : ℕ) → r ≡ Ok m → m ≤ b - a
