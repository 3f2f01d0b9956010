-- `seal` meets its contract: each return is one of the refusals in document 01's order, and the last one the record or
-- 15.
use mathlib.Core.Path.{sym, ◌∙◌}
use Rattle.rules.proofs.Laws.Answers.{passed-on}
use Rattle.sample_questions.proofs.Refusals.{stands, none-stands}
use Rattle.sample_seal.proofs.Sealing.{post-capture, post-luma, post-inside-capture, post-no-packet}
use Rattle.sample_seal.proofs.Sealing.{post-inside-luma, post-no-picture, post-written}
use Rattle.sample_seal.proofs.seal.Goals as goal

pub returns-in_err-standing : goal.returns-in_err-standing
returns-in_err-standing c =
    let passed = passed-on c.from_residual.result _ c.from_residual.ensures.1 in
    let s = stands _ _ _ _ passed (sym c.standing.ensures ∙ c.in_err-standing.was) in
    post-capture _ _ _ _ c.sum_up-c.ensures c.summarise-l.ensures _ s.0 s.1

pub returns-in_err-standing-2 : goal.returns-in_err-standing-2
returns-in_err-standing-2 c =
    let first = none-stands _ _ (sym c.standing.ensures ∙ c.in_ok-standing.was) in
    let again = c.from_residual-in_err-standing-2 in
    let passed = passed-on again.result _ again.ensures.1 in
    let s = stands _ _ _ _ passed (sym c.standing-2.ensures ∙ c.in_err-standing-2.was) in
    post-luma _ _ _ _ c.sum_up-c.ensures c.summarise-l.ensures _ first s.0 s.1

pub returns-then-c : goal.returns-then-c
returns-then-c c =
    let first = none-stands _ _ (sym c.standing.ensures ∙ c.in_ok-standing.was) in
    let second = none-stands _ _ (sym c.standing-2.ensures ∙ c.in_ok-standing-2.was) in
    rw c.capture_unfinished.ensures (search (post-inside-capture, first, second))

pub returns-then-c-eq0 : goal.returns-then-c-eq0
returns-then-c-eq0 c =
    let first = none-stands _ _ (sym c.standing.ensures ∙ c.in_ok-standing.was) in
    let second = none-stands _ _ (sym c.standing-2.ensures ∙ c.in_ok-standing-2.was) in
    search (post-no-packet, first, second)

pub returns-then-l : goal.returns-then-l
returns-then-l c =
    let first = none-stands _ _ (sym c.standing.ensures ∙ c.in_ok-standing.was) in
    let second = none-stands _ _ (sym c.standing-2.ensures ∙ c.in_ok-standing-2.was) in
    rw c.luma_unfinished.ensures (search (post-inside-luma, first, second))

pub returns-then-l-eq0 : goal.returns-then-l-eq0
returns-then-l-eq0 c =
    let first = none-stands _ _ (sym c.standing.ensures ∙ c.in_ok-standing.was) in
    let second = none-stands _ _ (sym c.standing-2.ensures ∙ c.in_ok-standing-2.was) in
    search (post-no-picture, first, second)

pub returns : goal.returns
returns c =
    let first = none-stands _ _ (sym c.standing.ensures ∙ c.in_ok-standing.was) in
    let second = none-stands _ _ (sym c.standing-2.ensures ∙ c.in_ok-standing-2.was) in
    search (post-written, first, second)
