-- `open` meets its contract: a fresh walk, and a fresh tally in the words.
use Prim.Native.Nat.{ℕ}
use mathlib.Core.Path.{◌∙◌}
use lib.ListN.{length-replicate}
use Rattle.capture.proofs.Pieces.{opens, fresh-is}
use Rattle.capture.proofs.open.Goals as goal

pub returns : goal.returns
returns c =
    let a = c.args in
    let l = length-replicate {A = ℕ} 16 0 in
    opens _ a.number a.pid a.edition c.«open».ensures (c.store.ensures.size ∙ l)
    (length-replicate {A = ℕ} 3750 0) (rw c.store.ensures.loads (fresh-is c.default.ensures))
