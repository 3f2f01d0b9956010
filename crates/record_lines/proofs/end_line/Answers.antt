-- `end_line` meets its contract. Assumes nothing.
use borrow.Author.Rules.{rules}
use Rattle.record_lines.proofs.Puts.{end-put}
use Rattle.record_lines.proofs.end_line.Goals as goal

pub returns : goal.returns
returns c = search (rules, end-put)
