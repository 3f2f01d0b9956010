-- The count is asked for, and its answer's 17 bytes are all of out.
use native.Mathlib.Omega.{arith}
use mathlib.Core.Path.{◌∙◌}
use mathlib.Core.List.{append-nil}
use lib.ListN.{drop_of_length-le}
use Rattle.rules.specs.Calls.{counted}
use Rattle.replay.proofs.call_repeats.Goals as goal

pub returns : goal.returns
returns c =
    record {
      reply = counted c.repeats.result;
      post = c.repeats.ensures.asked _;
      wrote = c.put.ensures
          ∙ rw (drop_of_length-le c.args.out.now {i = 17} (omega arith), append-nil);
    }
