use Rattle.luma_picture.proofs.Ends.{picture-ended, again-small}
use Rattle.luma_picture.proofs.end_picture.Goals as goal

pub next_picture-requires : goal.next_picture-requires
next_picture-requires c = (c.requires.more, rw c.again_of-again.ensures (again-small c.args.s))

pub returns : goal.returns
returns c =
    let a = c.args in
    let again = c.again_of-again.ensures in picture-ended a.g a.s c.requires
    (rw (c.rounds_to_nearest-rounds.ensures, c.opening_in-opening.ensures) at c.change_of-q.ensures)
    c.score_of-settled.ensures (rw again at c.note.ensures)
    (rw c.slot_of-next.ensures.0 at c.clear.ensures)
    (rw again at c.next_picture.ensures)
