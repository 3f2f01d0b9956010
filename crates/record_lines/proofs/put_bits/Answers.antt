-- `put_bits` meets its contract. Assumes nothing.
use borrow.Author.Rules.{rules}
use Rattle.record_lines.proofs.Puts.{bits_put}
use Rattle.record_lines.proofs.put_bits.Goals as goal

pub returns : goal.returns
returns c = search (rules, bits_put)
