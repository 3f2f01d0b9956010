-- The value of a run: black if its number is even, otherwise white.
use Prim.Native.Nat.{ℕ, ◌%◌, ◌<◌}
use native.Mathlib.Omega.{arith}
use native.Mathlib.Decide.{ℕ_discrete}
use mathlib.Core.Path.{◌≡◌}
use borrow.Author.Tests.{eq-eqb, ne_eqb}
use Rattle.rules.specs.Busiest.{tone, shade}

module _ (t : ℕ) where
  pub tone-even : t % 2 ≡ 0 → tone t ≡ 0
  unfolding tone
  tone-even e = rw (eq-eqb (t % 2) 0 e)

  pub tone-odd : (t % 2 ≡ 0 → ⊥) → tone t ≡ 255
  unfolding tone
  tone-odd e = rw (ne_eqb (t % 2) 0 e)

  tone-small : tone t < 256
  tone-small = go (ℕ_discrete (t % 2) 0)
    where
      go : Dec (t % 2 ≡ 0) → tone t < 256
      go (yes e) = omega (arith, tone-even e)
      go (no e) = omega (arith, tone-odd e)

pub shade-small : (d i : ℕ) → shade d i < 256
unfolding shade
shade-small d i = tone-small _
