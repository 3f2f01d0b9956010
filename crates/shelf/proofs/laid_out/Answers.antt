-- `laid_out_lem` meets its contract: one step of Steps for each test. Assumes nothing.
use borrow.Author.Rules.{rules}
use Rattle.shelf.proofs.Steps.{no_words, too_many, no-head, other-size, other-first, as-rising}
use Rattle.shelf.proofs.laid_out.Goals as goal

pub returns-then-bytes-lt8 : goal.returns-then-bytes-lt8
returns-then-bytes-lt8 c = no_words c.args.bytes.now c.if-bytes-lt8.true

pub returns-then-records-gt-RECORDS_MOST : goal.returns-then-records-gt-RECORDS_MOST
returns-then-records-gt-RECORDS_MOST c = search (rules, too_many)

pub returns-then-bytes-records : goal.returns-then-bytes-records
returns-then-bytes-records c = search (rules, no-head)

pub returns-then-size-bytes : goal.returns-then-size-bytes
returns-then-size-bytes c = search (rules, other-size)

pub returns-then-first-records : goal.returns-then-first-records
returns-then-first-records c = search (rules, other-first)

pub returns : goal.returns
returns c = search (rules, as-rising)
