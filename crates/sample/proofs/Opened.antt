-- The number that an opening is refused with, 0 for none.
use Prim.Native.Nat.{ℕ, zero, suc, ◌<◌}
use native.Mathlib.Omega.{arith}
use mathlib.Core.Path.{◌≡◌}
use Rattle.rules.specs.Refusals.{Fault, none, fault}
use Rattle.figures.specs.Opening.{numbered}

pub number-none : {f : Fault} {r : ℕ} → f ≡ numbered r → r ≡ 0 → f ≡ none
number-none {r = zero} e h = e
number-none {r = suc r} e h = absurd (omega arith)

pub number-some : {f : Fault} {r : ℕ} → f ≡ numbered r → 0 < r → f ≡ fault r 0
number-some {r = zero} e h = absurd (omega arith)
number-some {r = suc r} e h = e
