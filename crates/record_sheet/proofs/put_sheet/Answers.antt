-- `put_sheet` meets its contract. Assumes nothing.
use native.Mathlib.Omega.{arith}
use mathlib.Core.Path.{ap, ◌∙◌}
use Rattle.rules.specs.declared.Header.{Header}
use Rattle.rules.specs.Editions.{knows_damage}
use Rattle.rules.specs.Reading.{header_of}
use Rattle.rules.specs.Sheet.{pages_for, blanks_for}
use Rattle.record_sheet.proofs.Answers.{whole-pages, sheet-size, sheet-put}
use Rattle.record_sheet.proofs.put_sheet.Goals as goal

pub header_line-first-requires : goal.header_line-first-requires
header_line-first-requires c =
    let z = sheet-size c.args.bytes.now _ _ c.requires.as_many.0 c.requires.as_many.1 in
    omega arith

pub put_units-second-requires : goal.put_units-second-requires
put_units-second-requires c =
    let z = sheet-size c.args.bytes.now _ _ c.requires.as_many.0 c.requires.as_many.1 in
    record { rows_there = (c.requires.rows_there.0, omega arith); room = omega arith }

pub put_scenes-third-requires : goal.put_scenes-third-requires
put_scenes-third-requires c =
    let z = sheet-size c.args.bytes.now _ _ c.requires.as_many.0 c.requires.as_many.1 in
    record {
      counts = (c.requires.as_many.0, c.requires.rows_there.1);
      rows_there = c.requires.rows_there.2;
      room = omega arith;
    }

pub put_blanks-requires : goal.put_blanks-requires
unfolding blanks_for pages_for
put_blanks-requires c =
    let p = whole-pages _ _ c.div_ceil.ensures in
    let z = sheet-size c.args.bytes.now _ _ c.requires.as_many.0 c.requires.as_many.1 in
    omega arith

pub returns : goal.returns
unfolding blanks_for pages_for header_of
returns c =
    let figures = c.header_figures-h.ensures in
    let known = c.knows_damage-known.ensures ∙ ap (λ (h : Header). knows_damage h.edition) figures in
    let p = whole-pages _ _ c.div_ceil.ensures in
    let first = rw figures at c.header_line-first.ensures in
    sheet-put c.args.bytes.now _ _ c.requires.as_many.0 c.requires.as_many.1 _ known
    c.requires.room first c.put_units-second.ensures c.put_scenes-third.ensures
    (rw (← p) at c.put_blanks.ensures)
