-- `allowed` meets its contract, test by test.
use mathlib.Core.Path.{refl}
use native.Mathlib.Omega.{arith}
use Rattle.record_allowed.proofs.Tests.{no_header, long, no-units, all-rows}
use borrow.Author.Rules.{rules}
use Rattle.record_allowed.proofs.allowed.Goals as goal

pub returns-then-not-allowed_header : goal.returns-then-not-allowed_header
returns-then-not-allowed_header c = search (rules, no_header)

pub allowed_units-requires : goal.allowed_units-requires
allowed_units-requires c =
    omega (
      arith,
      long c.args.bytes.now _ c.allowed_header.ensures
          c.if-not-allowed_header.false,
    )

pub returns-then-not-allowed_units : goal.returns-then-not-allowed_units
returns-then-not-allowed_units c =
    no-units c.args.bytes.now _ c.allowed_header.ensures
    c.if-not-allowed_header.false _ _ _ _ _ c.word32-units.ensures
    c.word32-scenes.ensures refl c.word.ensures.0
    c.knows_damage-known.ensures _ c.allowed_units.ensures c.if-not-allowed_units.true

pub allowed_scenes-requires : goal.allowed_scenes-requires
allowed_scenes-requires c =
    omega (
      arith,
      long c.args.bytes.now _ c.allowed_header.ensures
          c.if-not-allowed_header.false,
    )

pub returns : goal.returns
returns c = search (rules, all-rows)
