-- `store` meets its contract: each number in its word.
use lib.ListN.{length-set}
use native.Mathlib.Omega.{arith}
use Rattle.capture.proofs.Pieces.{stored}
use Rattle.capture.proofs.numbers.store.Goals as goal

pub returns : goal.returns
returns c =
    record
    { size = simp length-set; loads = λ e. stored c.args.numbers.now c.args.t (omega arith) }
