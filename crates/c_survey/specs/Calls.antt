-- R-4 for the C functions: after the opening of a survey, every list of feeds and questions leaves the numbers, the
-- values and the counts that the rules give for the joined bytes alone.
use Rattle.std.specs.Prelude.{ℕ, ◌≡◌, List, [], ◌∷◌, map}
use Rattle.rules.specs.Survey.{SurveyCall, feed_survey, ask_survey, SurveyOutcome, fed_survey, found, survey_expected}
use Rattle.survey.specs.State.{State}
use Rattle.survey.specs.Contract.{Opened}
use Rattle.c_numbers.specs.Numbers.{number_of, value_of}
use Rattle.c_survey.specs.Contract.{most_value, most_count, SurveyFed, SurveyTold}

-- what a call leaves: its number, its value and, of a question, the count
pub record SurveyLeft : Type 0 where
  pub number : ℕ
  pub value : ℕ
  pub count : ℕ

abbrev pub survey_left : SurveyOutcome → SurveyLeft
survey_left (fed_survey a) = record { number = number_of a; value = value_of a; count = 0 }
survey_left (found a) = record { number = number_of a; value = most_value a; count = most_count a }

-- one call of a C function on a state, which leaves another: no more and no less than the function's own contract
pub data SurveyMade : State → SurveyCall → SurveyLeft → State → Type 0 where
  feeds : {st st' : State} {piece : List ℕ} {n v : ℕ} → SurveyFed st piece n v st' →
      SurveyMade st (feed_survey piece) (record { number = n; value = v; count = 0 }) st'
  asks : {st : State} {n v c : ℕ} → SurveyTold st.walk st.counts n v c →
      SurveyMade st ask_survey (record { number = n; value = v; count = c }) st

pub data SurveyMadeAll : State → List SurveyCall → List SurveyLeft → State → Type 0 where
  done : {st : State} → SurveyMadeAll st [] [] st
  next : {st st' end : State} {c : SurveyCall} {l : SurveyLeft} {cs : List SurveyCall} {ls : List SurveyLeft} →
      SurveyMade st c l st' → SurveyMadeAll st' cs ls end → SurveyMadeAll st (c ∷ cs) (l ∷ ls) end

-- THE STATEMENT
abbrev pub EverySurvey : Type 0
EverySurvey =
    (st : State) (cs : List SurveyCall) (ls : List SurveyLeft) (end : State) → Opened st → SurveyMadeAll st cs ls end →
    ls ≡ map survey_left (survey_expected [] cs)
