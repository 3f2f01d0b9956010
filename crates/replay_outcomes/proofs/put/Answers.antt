-- The stores of `put` stand one behind the other.
use Rattle.std.proofs.Common.{◌∙◌, Ok, Err}
use Rattle.replay_outcomes.proofs.Laws.{put-law}
use Rattle.replay_outcomes.proofs.put.Goals as goal
use Rattle.replay_outcomes.proofs.put.Goals.{in-Ok, in-Err}

pub returns : goal.returns
returns c =
    let out = c.args.out.now in
    c.put64-2.ensures
    ∙ rw c.put64.ensures (elim c.match-a.branch [
      | in-Ok w ↦ rw (w.kind-is, w.in-Ok.is) (put-law out (Ok w.in-Ok.n) c.requires)
      | in-Err w ↦ rw (w.kind-is, w.in-Err.is) (put-law out (Err w.in-Err.e) c.requires)
    ])
