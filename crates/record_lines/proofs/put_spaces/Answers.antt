-- `put_spaces` meets its contract. Assumes nothing.
use native.Mathlib.Omega.{arith}
use Rattle.record_lines.proofs.Puts.{spaces-put}
use Rattle.record_lines.proofs.put_spaces.Goals as goal

pub returns : goal.returns
returns c =
    spaces-put c.args.at c.args.n _ c.args.buffer.now _ (omega arith) c.requires (c.fill.ensures.after (λ y e. e))
