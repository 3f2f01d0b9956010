-- `index` meets its contract: each return is one of the refusals in document 02's order, and the last one the index.
use mathlib.Core.Path.{refl, sym, ◌∙◌}
use Rattle.rules.proofs.Laws.Answers.{passed-on}
use Rattle.sample_questions.proofs.Refusals.{stands, none-stands}
use Rattle.sample_questions.proofs.WhileFeeding.{post-capture, post-luma, post-cells, post-pictures, post-given}
use Rattle.sample_questions.proofs.while_feeding.index.Goals as goal

pub returns-in_err-standing : goal.returns-in_err-standing
returns-in_err-standing c =
    let passed = passed-on c.from_residual.result _ c.from_residual.ensures.1 in
    let s = stands _ _ _ _ passed (sym c.standing.ensures ∙ c.in_err-standing.was) in
    post-capture _ _ _ _ c.totals_in-c.ensures c.totals_in-l.ensures _ s.0 s.1

pub returns-in_err-standing-2 : goal.returns-in_err-standing-2
returns-in_err-standing-2 c =
    let first = none-stands _ _ (sym c.standing.ensures ∙ c.in_ok-standing.was) in
    let passed = passed-on c.from_residual-in_err-standing-2.result _ c.from_residual-in_err-standing-2.ensures.1 in
    let s = stands _ _ _ _ passed (sym c.standing-2.ensures ∙ c.in_err-standing-2.was) in
    post-luma _ _ _ _ c.totals_in-c.ensures c.totals_in-l.ensures _ first s.0 s.1

pub returns-then-c-eq0 : goal.returns-then-c-eq0
returns-then-c-eq0 c =
    let first = none-stands _ _ (sym c.standing.ensures ∙ c.in_ok-standing.was) in
    let second = none-stands _ _ (sym c.standing-2.ensures ∙ c.in_ok-standing-2.was) in
    post-cells _ _ _ _ c.totals_in-c.ensures c.totals_in-l.ensures _ first second refl c.if-c-eq0.true

pub returns-then-l-eq0 : goal.returns-then-l-eq0
returns-then-l-eq0 c =
    let first = none-stands _ _ (sym c.standing.ensures ∙ c.in_ok-standing.was) in
    let second = none-stands _ _ (sym c.standing-2.ensures ∙ c.in_ok-standing-2.was) in
    post-pictures _ _ _ _ c.totals_in-c.ensures c.totals_in-l.ensures _ first second c.if-c-eq0.false refl
    c.if-l-eq0.true

pub returns : goal.returns
returns c =
    let first = none-stands _ _ (sym c.standing.ensures ∙ c.in_ok-standing.was) in
    let second = none-stands _ _ (sym c.standing-2.ensures ∙ c.in_ok-standing-2.was) in
    post-given _ _ _ _ c.totals_in-c.ensures c.totals_in-l.ensures _ first second
    c.if-c-eq0.false c.if-l-eq0.false c.index_in.result c.index_in.ensures refl
