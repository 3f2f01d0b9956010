-- R-4 as one statement about a whole list of calls: after an opening, every list of feeds and questions, refused
-- ones among them, comes to what the rules give for the joined bytes alone, each call getting the state that the
-- call before it left.
use Rattle.std.specs.Prelude.{ℕ, ◌≡◌, List, [], ◌∷◌, ◌++◌}
use Rattle.rules.specs.declared.Most.{Most}
use Rattle.rules.specs.Refusals.{Answer}
use Rattle.rules.specs.Survey.{SurveyCall, feed_survey, ask_survey, SurveyOutcome, fed_survey, found, survey_expected}
use Rattle.rules.specs.Survey.{survey_fed}
use Rattle.survey.specs.State.{State}
use Rattle.survey.specs.Contract.{Opened, FeedPost, AskPost}

-- one call on a state, which leaves another: no more and no less than the function's own contract. A question leaves
-- the state that it found
pub data Ran : State → SurveyCall → SurveyOutcome → State → Type 0 where
  feeds : {st st' : State} {piece : List ℕ} {a : Answer ℕ} → FeedPost st piece a st' →
      Ran st (feed_survey piece) (fed_survey a) st'
  asks : {st : State} {a : Answer Most} → AskPost st.walk st.counts a → Ran st ask_survey (found a) st

-- calls that are made one after the other, the first on the state st; what they come to; and the state that the last
-- leaves
pub data Runs : State → List SurveyCall → List SurveyOutcome → State → Type 0 where
  done : {st : State} → Runs st [] [] st
  next : {st st' end : State} {c : SurveyCall} {o : SurveyOutcome} {cs : List SurveyCall} {os : List SurveyOutcome} →
      Ran st c o st' → Runs st' cs os end → Runs st (c ∷ cs) (o ∷ os) end

-- THE STATEMENT
abbrev pub EverySurvey : Type 0
EverySurvey =
    (st : State) (cs : List SurveyCall) (os : List SurveyOutcome) (end : State) → Opened st → Runs st cs os end →
    os ≡ survey_expected [] cs

-- and so every cutting of one capture ends alike: a question at the end of two lists that feed equal joined bytes to
-- fresh surveys comes to the same, whatever their pieces and the questions between them
abbrev pub CuttingsAlike : Type 0
CuttingsAlike =
    (st st' end end' : State) (cs cs' : List SurveyCall) (os os' : List SurveyOutcome) (s s' : SurveyOutcome) →
    Opened st → Opened st' → survey_fed cs ≡ survey_fed cs' →
    Runs st (cs ++ ask_survey ∷ []) (os ++ s ∷ []) end →
    Runs st' (cs' ++ ask_survey ∷ []) (os' ++ s' ∷ []) end' → s ≡ s'
