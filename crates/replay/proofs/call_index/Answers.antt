-- The index is asked for, and its answer's 25 bytes are all of out.
use Rattle.rules.specs.Calls.{indexed}
use Rattle.replay.proofs.call_index.Goals as goal

pub put_index-requires : goal.put_index-requires
put_index-requires c = (c.requires, c.index.ensures.given)

pub returns : goal.returns
returns c =
    record {
      reply = indexed c.index.result;
      post = c.index.ensures.asked _ _ _;
      wrote = c.put_index.ensures;
    }
