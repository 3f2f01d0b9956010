-- `put64` meets its contract.
use Rattle.std.proofs.Common.{◌∙◌, arith}
use Rattle.rules.specs.Bytes.{bytes_of}
use Rattle.words.proofs.Laws.{le_bytes, part-written}
use Rattle.words.proofs.put64.Goals as goal

pub returns : goal.returns
unfolding bytes_of
returns c =
    part-written c.args.at (bytes_of 8 c.args.x) c.args.s.now c.requires (omega arith)
    (c.copy_from_slice.ensures.after ∙ c.to_le_bytes.ensures ∙ le_bytes 8 c.args.x)
