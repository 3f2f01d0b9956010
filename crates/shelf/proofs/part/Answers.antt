-- `part` meets its contract: the refusals of `open`, then 19, or both edges. Assumes nothing.
use Rattle.rules.proofs.Laws.Answers.{passed-on}
use Rattle.shelf.proofs.Steps.{head-given, part-missing, part-given, part-refused}
use Rattle.shelf.proofs.part.Goals as goal

pub returns-in_err-shelf : goal.returns-in_err-shelf
returns-in_err-shelf c =
    let passed = passed-on c.from_residual.result _ c.from_residual.ensures.1 in
    rw passed (part-refused _ _ c.«open».ensures _ c.in_err-shelf.was _)

pub returns-then-shelf-j : goal.returns-then-shelf-j
returns-then-shelf-j c = part-missing _ _ c.«open».ensures _ c.in_ok-shelf.was _ c.if-shelf-j.true

pub edge-requires : goal.edge-requires
edge-requires c = head-given _ _ c.«open».ensures _ c.in_ok-shelf.was

pub edge-requires-2 : goal.edge-requires-2
edge-requires-2 c = head-given _ _ c.«open».ensures _ c.in_ok-shelf.was

pub returns : goal.returns
returns c =
    part-given _ _ c.«open».ensures _ c.in_ok-shelf.was _ _ _ c.if-shelf-j.false c.edge.ensures c.edge-2.ensures
