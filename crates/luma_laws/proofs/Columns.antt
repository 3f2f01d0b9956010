-- Document 02, R-3: of the two boundaries, as many are at or below c as 3c/w says, for every w above 0
-- and every c below w.
use Prim.Native.Nat.{ℕ, ◌+◌, ◌*◌, ◌/◌, ◌≤◌, ◌<◌}
use native.Mathlib.Omega.{arith}
use native.Mathlib.Nat.{lt_of_not-le, div-eq_of_lt-le}
use native.Mathlib.Decide.{dec_le}
use mathlib.Core.Path.{◌≡◌}
use mathlib.Core.List.{[], ◌∷◌}
use borrow.Author.Tests.{le-leb, lt-leb}
use Rattle.rules.specs.Bytes.{count}
use Rattle.rules.specs.Histograms.{third}
use Rattle.rules.specs.Columns.{Boundary, at_or_below}

-- there is one boundary, and this number is it
pub boundary-is : (k w : ℕ) → Boundary k w ((k * w + 2) / 3)
boundary-is k w = record { reached = omega arith; least = λ b h. omega arith }

pub boundary-one : {k w a b : ℕ} → Boundary k w a → Boundary k w b → a ≡ b
boundary-one {k} {w} {a} {b} x y = omega (arith, x.least b y.reached, y.least a x.reached)

-- a column that a boundary is at or below has reached it, and no other has
pub behind : {k w b : ℕ} (c : ℕ) → Boundary k w b → b ≤ c → k * w ≤ 3 * c
behind c x h = omega (arith, x.reached)

pub before : {k w b : ℕ} (c : ℕ) → Boundary k w b → c < b → 3 * c < k * w
before {k} {w} {b} c x h = lt_of_not-le (λ g. omega (arith, x.least c g))

pub columns-counted : (w c a b : ℕ) → 0 < w → c < w → Boundary 1 w a → Boundary 2 w b →
    third w c ≡ at_or_below c (a ∷ b ∷ [])
unfolding third count
columns-counted w c a b some in_row x y = go (dec_le a c) (dec_le b c)
  where
    go : Dec (a ≤ c) → Dec (b ≤ c) → 3 * c / w ≡ at_or_below c (a ∷ b ∷ [])
    go (yes h) (yes k) =
        rw (le-leb a c h, le-leb b c k) (div-eq_of_lt-le w (omega (arith, behind c y k)) (omega arith))
    go (yes h) (no k) =
        rw (le-leb a c h, lt-leb b c (lt_of_not-le k))
        (div-eq_of_lt-le w (omega (arith, behind c x h)) (omega (arith, before c y (lt_of_not-le k))))
    go (no h) (yes k) = absurd (omega (arith, behind c y k, before c x (lt_of_not-le h)))
    go (no h) (no k) =
        rw (lt-leb a c (lt_of_not-le h), lt-leb b c (lt_of_not-le k))
        (div-eq_of_lt-le w (omega arith) (omega (arith, before c x (lt_of_not-le h))))

-- where the two lie
pub record Edges (w a b : ℕ) : Type 0 where
  pub second : a ≡ (w + 2) / 3
  pub third : b ≡ (2 * w + 2) / 3

pub edges : {w a b : ℕ} → Boundary 1 w a → Boundary 2 w b → Edges w a b
edges {w} x y =
    record { second = omega (arith, boundary-one x (boundary-is 1 w)); third = boundary-one y (boundary-is 2 w) }
