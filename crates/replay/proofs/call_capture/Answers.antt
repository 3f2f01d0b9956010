-- Out is the answer's 17 bytes and no more.
use mathlib.Core.Path.{◌∙◌}
use mathlib.Core.List.{append-nil}
use lib.ListN.{drop_of_length-le}
use native.Mathlib.Omega.{arith}
use Rattle.replay.proofs.call_capture.Goals as goal

pub returns : goal.returns
returns c =
    record {
      answer = _;
      post = c.feed_capture.ensures;
      wrote = c.put.ensures
          ∙ rw (drop_of_length-le c.args.out.now {i = 17} (omega arith), append-nil);
    }
