-- `check` meets its contract.
use Rattle.std.proofs.Common.{refl}
use Rattle.capture_counts.proofs.Laws.{check-other, check-room, check-full}
use Rattle.capture_counts.proofs.check.Goals as goal
use Rattle.capture_counts.proofs.check.Goals.{else-wanted-via-then-wanted+else-is_full, else-wanted-via-else-wanted}

pub returns-then-is_full : goal.returns-then-is_full
returns-then-is_full c =
    let at = c.args in
    rw c.nine.ensures (check-full at.t at.c _ c.wanted.ensures
    c.seen.ensures c.if-wanted.true c.is_full.ensures _
    c.if-is_full.true refl refl)

pub returns : goal.returns
returns c =
    let at = c.args in
    elim c.else-wanted.branch [
      | else-wanted-via-then-wanted+else-is_full w ↦ check-room at.t at.c _ c.wanted.ensures
          w.seen.ensures w.if-wanted.true w.is_full.ensures w.if-is_full.false
      | else-wanted-via-else-wanted w ↦ check-other at.t at.c _ c.wanted.ensures w.if-wanted.false
    ]
