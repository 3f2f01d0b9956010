-- R-4: the statements of `specs/Calls` hold.
use Prim.Native.Nat.{ℕ}
use mathlib.Core.Path.{◌≡◌, refl, sym, ap, ◌∙◌}
use mathlib.Core.List.{List, [], ◌∷◌, ◌++◌, append-nil, append_assoc, head-eq_of_cons-eq, tail-eq_of_cons-eq}
use mathlib.Core.List.{cons-ne-nil}
use Rattle.rules.specs.Survey.{SurveyCall, feed_survey, ask_survey, SurveyOutcome, found, survey_expected}
use Rattle.rules.specs.Survey.{survey_fed, survey_answer}
use Rattle.survey.specs.State.{State, Means}
use Rattle.survey.specs.Calls.{feeds, asks, Runs, done, next, EverySurvey, CuttingsAlike}

-- from a state that stands for the bytes so far
runs : (capture : List ℕ) {st end : State} {cs : List SurveyCall} {os : List SurveyOutcome} → Means st capture →
    Runs st cs os end → os ≡ survey_expected capture cs
unfolding survey_expected
runs capture h done = refl
runs capture {cs = feed_survey piece ∷ cs} h (next (feeds p) r) =
    let e = p.answer capture h in
    let l = runs (capture ++ piece) (p.means capture h) r in
    cc
runs capture {st = st} h (next (asks p) r) =
    let e = p.rule st.kept capture h in
    let l = runs capture h r in
    cc

pub every-survey : EverySurvey
every-survey st cs os end p r = runs [] p r

-- ---- two lists that end in the question

some-outcome : (capture : List ℕ) (cs : List SurveyCall) → survey_expected capture (cs ++ ask_survey ∷ []) ≡ [] → ⊥
unfolding survey_expected
some-outcome capture [] e = cons-ne-nil _ _ e
some-outcome capture (feed_survey piece ∷ cs) e = cons-ne-nil _ _ e
some-outcome capture (ask_survey ∷ cs) e = cons-ne-nil _ _ e

-- the outcome of the question at the end goes by the joined bytes
asked-last : (capture : List ℕ) (cs : List SurveyCall) (os : List SurveyOutcome) (s : SurveyOutcome) →
    os ++ s ∷ [] ≡ survey_expected capture (cs ++ ask_survey ∷ []) →
    s ≡ found (survey_answer (capture ++ survey_fed cs))
unfolding survey_expected survey_fed
asked-last capture [] [] s e = rw (append-nil capture) (head-eq_of_cons-eq e)
asked-last capture [] (p ∷ []) s e = absurd (cons-ne-nil s [] (tail-eq_of_cons-eq e))
asked-last capture [] (p ∷ r ∷ os) s e = absurd (cons-ne-nil r (os ++ s ∷ []) (tail-eq_of_cons-eq e))
asked-last capture (feed_survey piece ∷ cs) [] s e =
    absurd (some-outcome (capture ++ piece) cs (sym (tail-eq_of_cons-eq e)))
asked-last capture (feed_survey piece ∷ cs) (p ∷ os) s e =
    rw (← append_assoc capture piece (survey_fed cs)) (asked-last (capture ++ piece) cs os s (tail-eq_of_cons-eq e))
asked-last capture (ask_survey ∷ cs) [] s e = absurd (some-outcome capture cs (sym (tail-eq_of_cons-eq e)))
asked-last capture (ask_survey ∷ cs) (p ∷ os) s e = asked-last capture cs os s (tail-eq_of_cons-eq e)

pub cuttings-alike : CuttingsAlike
cuttings-alike st st' end end' cs cs' os os' s s' p p' e r r' =
    asked-last [] cs os s (runs [] p r) ∙ ap (λ (c : List ℕ). found (survey_answer c)) e
    ∙ sym (asked-last [] cs' os' s' (runs [] p' r'))
