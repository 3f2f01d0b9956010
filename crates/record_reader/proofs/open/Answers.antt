use borrow.Author.Rules.{rules}
use Rattle.record_reader.proofs.Answers.{edition-is, opened-short, opened-edition, opened-wrong, opened-right}
use Rattle.record_reader.proofs.open.Goals as goal

pub returns-then-bytes-lt64 : goal.returns-then-bytes-lt64
returns-then-bytes-lt64 c = search (rules, opened-short)

pub returns-then-not-is_edition : goal.returns-then-not-is_edition
returns-then-not-is_edition c = search (rules, opened-edition, edition-is)

pub returns-then-not-allowed : goal.returns-then-not-allowed
returns-then-not-allowed c =
    opened-wrong c.args.bytes.now c.if-bytes-lt64.false _ (edition-is c.is_edition.ensures c.word32.ensures)
    c.if-not-is_edition.false _ c.allowed.ensures c.if-not-allowed.true

pub returns : goal.returns
returns c = search (rules, opened-right, edition-is)
