-- `ask` meets its contract, by what it tests in turn: a refusal that stands, 11, 21.
use mathlib.Core.Path.{sym, ◌∙◌}
use Rattle.survey.proofs.Steps.{ask-stopped, ask-inside, ask-none, ask-most}
use borrow.Author.Rules.{rules}
use Rattle.survey.proofs.ask.Goals as goal

pub returns-then-s-ne0 : goal.returns-then-s-ne0
returns-then-s-ne0 c = search (rules, ask-stopped)

pub returns-then-inside : goal.returns-then-inside
returns-then-inside c =
    rw c.capture_unfinished.ensures
    (ask-inside _ _ _ c.load-s.ensures c.if-s-ne0.false c.inside.ensures c.if-inside.true)

pub returns-then-most-eq0 : goal.returns-then-most-eq0
returns-then-most-eq0 c =
    let load = c.load-s in
    let clear = c.if-s-ne0 in let inside = c.inside in
    ask-none _ _ _ load.ensures clear.false inside.ensures c.if-inside.false
    c.with_most-best.ensures (sym c.from-most.ensures ∙ c.if-most-eq0.true)

pub returns : goal.returns
returns c = search (rules, ask-most)
