-- R-4 for the C functions: the statement of `specs/Calls` holds. Under every list of C calls lies a list of calls of
-- `survey`.
use Prim.Native.Nat.{ℕ}
use mathlib.Core.Path.{◌≡◌, refl, ap, ◌∙◌}
use mathlib.Core.List.{List, [], ◌∷◌, map}
use Rattle.rules.specs.declared.Most.{Most}
use Rattle.rules.specs.Refusals.{Answer}
use Rattle.rules.specs.Survey.{SurveyCall, SurveyOutcome, fed_survey, found}
use Rattle.survey.specs.State.{State}
use Rattle.survey.specs.Calls as of-survey
use Rattle.survey.proofs.Lists.{every-survey}
use Rattle.c_numbers.specs.Numbers.{number_of, value_of}
use Rattle.c_survey.specs.Contract.{most_value, most_count}
use Rattle.c_survey.specs.Calls.{SurveyLeft, survey_left, feeds, asks, SurveyMadeAll, done, next, EverySurvey}

record Under (st : State) (cs : List SurveyCall) (ls : List SurveyLeft) (end : State) : Type 0 where
  outcomes : List SurveyOutcome
  runs : of-survey.Runs st cs outcomes end
  left : ls ≡ map survey_left outcomes

fed-more : (n v : ℕ) (a : Answer ℕ) (ls : List SurveyLeft) (os : List SurveyOutcome) → n ≡ number_of a → v ≡ value_of a →
    ls ≡ map survey_left os → record { number = n; value = v; count = 0 } ∷ ls ≡ map survey_left (fed_survey a ∷ os)
fed-more n v a ls os k x l = rw (k, x, l)

found-more : (n v c : ℕ) (a : Answer Most) (ls : List SurveyLeft) (os : List SurveyOutcome) → n ≡ number_of a →
    v ≡ most_value a → c ≡ most_count a → ls ≡ map survey_left os →
    record { number = n; value = v; count = c } ∷ ls ≡ map survey_left (found a ∷ os)
found-more n v c a ls os k x y l = rw (k, x, y, l)

under : {st : State} {cs : List SurveyCall} {ls : List SurveyLeft} {end : State} → SurveyMadeAll st cs ls end →
    Under st cs ls end
under done = record { outcomes = []; runs = of-survey.done; left = refl }
under (next (feeds p) r) =
    let u = under r in
    record {
      outcomes = fed_survey p.answer ∷ u.outcomes;
      runs = of-survey.next (of-survey.feeds p.made) u.runs;
      left = fed-more _ _ p.answer _ u.outcomes p.numbered p.valued u.left;
    }
under (next (asks p) r) =
    let u = under r in
    record {
      outcomes = found p.answer ∷ u.outcomes;
      runs = of-survey.next (of-survey.asks p.made) u.runs;
      left = found-more _ _ _ p.answer _ u.outcomes p.numbered p.valued p.counted u.left;
    }

pub every-survey-call : EverySurvey
every-survey-call st cs ls end p r =
    let u = under r in u.left ∙ ap (map survey_left) (every-survey st cs u.outcomes end p u.runs)
