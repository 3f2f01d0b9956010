-- `sum` meets its contract: at most 4,096 lengths of 32 bits. Assumes nothing.
use Prim.Native.Nat.{ℕ}
use mathlib.Core.Path.{◌≡◌, ◌∙◌}
use mathlib.Core.List.{map}
use borrow.Author.Rules.{rules}
use Rattle.std.specs.List.{sum}
use Rattle.std.proofs.iter.runs.Sources.{sums}
use Rattle.shelf_writer.proofs.Laws.{sum_of_lengths}
use Rattle.shelf_writer.proofs.sum.Goals as goal

pub sum-requires-clause-fits : goal.sum-requires-clause-fits
sum-requires-clause-fits c = search (rules, sums)

pub returns : goal.returns
returns c =
    let ls = c.args.lengths.now in
    let added : c.sum.result ≡ sum (map (λ (l : ℕ). l) ls) = search rules in
    added ∙ sum_of_lengths ls
