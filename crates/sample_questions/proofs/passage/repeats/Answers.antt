-- `repeats` meets its contract: the opening's number, or what the passage answers.
use mathlib.Core.Path.{sym, ◌∙◌}
use Rattle.rules.proofs.Laws.Answers.{passed-on}
use Rattle.sample_questions.proofs.Refusals.{stands, none-stands}
use Rattle.sample_questions.proofs.Passages.{post-opening, post-counted}
use Rattle.sample_questions.proofs.passage.repeats.Goals as goal

pub returns-in_err-standing : goal.returns-in_err-standing
returns-in_err-standing c =
    let passed = passed-on c.from_residual.result _ c.from_residual.ensures.1 in
    let s = stands _ _ _ _ passed (sym c.standing.ensures ∙ c.in_err-standing.was) in
    post-opening _ _ _ _ _ c.opening_in-o.ensures _ c.opening_fault.ensures s.0 s.1

pub returns : goal.returns
returns c =
    let none = none-stands _ _ (sym c.standing.ensures ∙ c.in_ok-standing.was) in
    post-counted _ _ _ _ _ c.opening_in-o.ensures _ c.opening_fault.ensures _
    c.totals_in-l.ensures none c.passage.ensures
