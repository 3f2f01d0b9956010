use Rattle.luma_picture.proofs.change_of.Goals as goal

pub returns : goal.returns
returns c =
    record {
      first = λ e. absurd (c.if-s-eq0.false e);
      later = λ n. rw (
        ← c.moves_in-m.ensures.0,
        ← c.moves_in-m.ensures.1,
        ← c.moves_in-m.ensures.2,
      ) c.change.ensures;
    }
