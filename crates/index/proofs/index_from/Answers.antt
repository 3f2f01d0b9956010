-- `index_from` meets its contract, by its three tests. Assumes nothing.
use native.Mathlib.Omega.{arith}
use Rattle.index.proofs.Taken.{none, taken}
use Rattle.index.proofs.index_from.Goals as goal

pub returns-then-packets-ge1 : goal.returns-then-packets-ge1
returns-then-packets-ge1 c =
    taken _ _ _ _ _
    (record {
      some_pictures = omega arith;
      of_them = omega arith;
      some_packets = omega arith;
      few_pictures = omega arith;
      few_packets = omega arith;
      few_lost = omega arith;
    })
    c.index_of_totals.ensures

pub returns-else-pictures-ge1 : goal.returns-else-pictures-ge1
returns-else-pictures-ge1 c = none _ _ _ _ _ c.else-pictures-ge1.either c.no_index.ensures
