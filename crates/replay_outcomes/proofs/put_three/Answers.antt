-- The stores of `put_three` stand one behind the other.
use Rattle.std.proofs.Common.{◌∙◌}
use Rattle.replay_outcomes.proofs.Laws.{three-law}
use Rattle.replay_outcomes.proofs.put_three.Goals as goal

pub returns : goal.returns
returns c =
    c.put64-3.ensures
    ∙ rw (c.put64-2.ensures, c.put64.ensures)
    (three-law c.args.out.now c.args.kind c.args.a c.args.b c.args.c c.requires)
