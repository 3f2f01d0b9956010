-- What each function promises of the luma words w.
use Rattle.std.specs.Prelude.{ℕ, ◌+◌, ◌-◌, ◌≤◌, ◌<◌, ◌≡◌, List, Bool, length, get_or, Ok}
use Rattle.rules.specs.Refusals.{Answer, answer}
use Rattle.rules.specs.Passage.{repeated_in, passage_fault}
use Rattle.rules.specs.Calls.{refusal_of}
use Rattle.luma_laws.specs.Past.{map_word}
use Rattle.luma_state.specs.Layout.{repeats_at}

-- the twelve words of the map are those of these pictures' repeats
pub record Mapped (w : List ℕ) (rs : List Bool) : Type 0 where
  pub few : length rs ≤ 750
  pub word : (j : ℕ) → j < 12 → get_or w (repeats_at + j) 0 ≡ map_word rs j

-- the count from the words: no more than the passage has pictures, and the count over the pictures where the words are
-- their map
pub record BetweenPost (w : List ℕ) (a b r : ℕ) : Type 0 where
  pub most : r ≤ b - a
  pub repeated : (rs : List Bool) → Mapped w rs → a ≤ b → b ≤ length rs → r ≡ repeated_in a b rs

-- the answer for n whole pictures
pub record AnswerPost (w : List ℕ) (n a b : ℕ) (r : Answer ℕ) : Type 0 where
  pub rule : (rs : List Bool) → Mapped w rs → length rs ≡ n → r ≡ answer (passage_fault n a b) (repeated_in a b rs)
  -- of any words: it is refused exactly as the rule says, and no more is counted than the passage has pictures
  pub refusal : refusal_of r ≡ passage_fault n a b
  pub most : (m : ℕ) → r ≡ Ok m → m ≤ b - a
