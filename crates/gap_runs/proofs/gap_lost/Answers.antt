use Rattle.std.proofs.Common.{ℕ, ◌≡◌, ◌-◌, Bool, true, false, ltb, ltb-false, arith, refl}
use Rattle.rules.specs.Bytes.{pick}
use Rattle.gap_runs.proofs.Counting.{lost-is}
use Rattle.gap_runs.proofs.gap_lost.Goals as goal

less : (g : ℕ) → pick (ltb 1 g) (g - 1) 0 ≡ g - 1
less g = go (ltb 1 g) refl
  where
    go : (b : Bool) → ltb 1 g ≡ b → pick b (g - 1) 0 ≡ g - 1
    go true e = refl
    go false e = omega (arith, ltb-false 1 g e)

pub returns : goal.returns
returns c = omega (arith, lost-is c.args.g c.requires, less c.args.g)
