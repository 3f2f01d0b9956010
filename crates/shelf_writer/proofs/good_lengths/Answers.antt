-- `good_lengths` meets its contract, by its two tests. Assumes nothing.
use borrow.Author.Rules.{rules}
use Rattle.shelf_writer.proofs.Steps.{too_many, sum-tested}
use Rattle.shelf_writer.proofs.good_lengths.Goals as goal

pub returns-then-lengths-gt-RECORDS_MOST : goal.returns-then-lengths-gt-RECORDS_MOST
returns-then-lengths-gt-RECORDS_MOST c = too_many c.args.lengths.now _ c.if-lengths-gt-RECORDS_MOST.true

pub returns : goal.returns
returns c = search (rules, sum-tested)
