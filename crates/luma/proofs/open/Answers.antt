use Rattle.luma.proofs.Posts.{open-refused, open_done}
use Rattle.luma.proofs.open.Goals as goal

pub returns-then-f-ne0 : goal.returns-then-f-ne0
returns-then-f-ne0 c =
    let f = c.opening_fault-f in
    record { answer = open-refused _ f.result f.ensures c.if-f-ne0.true; means = c.begin.ensures }

pub returns : goal.returns
returns c =
    let f = c.opening_fault-f in
    record { answer = open_done _ f.result f.ensures c.if-f-ne0.false; means = c.begin.ensures }
