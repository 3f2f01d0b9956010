use native.Mathlib.Omega.{arith}
use mathlib.Core.Path.{ap}
use Rattle.figures.specs.declared.opening.Sizes.{Sizes}
use Rattle.luma_laws.proofs.Columns.{boundary-is, boundary-one}
use Rattle.luma_state.proofs.Kept.{columns-most}
use Rattle.luma_state.proofs.stored.grid_of.Goals as goal

pub boundary-requires : goal.boundary-requires
boundary-requires c = (
  omega arith,
  omega (arith, columns-most c.args.o, ap (λ (z : Sizes). z.columns) c.sizes_of-z.ensures),
)

pub boundary-requires-2 : goal.boundary-requires-2
boundary-requires-2 c = (
  omega arith,
  omega (arith, columns-most c.args.o, ap (λ (z : Sizes). z.columns) c.sizes_of-z.ensures),
)

pub returns : goal.returns
returns c =
    let z = c.sizes_of-z.result in
    rw (
      boundary-one c.boundary.ensures.0 (boundary-is 1 z.columns),
      boundary-one c.boundary-2.ensures.0 (boundary-is 2 z.columns),
      c.sizes_of-z.ensures,
    )
