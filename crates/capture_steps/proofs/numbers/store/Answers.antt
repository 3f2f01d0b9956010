use Rattle.std.proofs.Common.{arith, length-set}
use Rattle.capture_steps.proofs.Pieces.{stored}
use Rattle.capture_steps.proofs.numbers.store.Goals as goal

pub returns : goal.returns
returns c = record { size = simp length-set; loads = λ e. stored c.args.words.now c.args.s (omega arith) }
