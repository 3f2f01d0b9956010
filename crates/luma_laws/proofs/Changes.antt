-- The laws of the change: `root` is the greatest whole number that fits, `nearest` the one nearest to the root.
use Prim.Native.Nat.{ℕ, zero, suc, ◌+◌, ◌*◌, ◌/◌, ◌^◌, ◌≤◌, ◌<◌}
use native.Mathlib.Omega.{arith}
use native.Mathlib.Nat.{pow-suc, add_comm, mul_assoc, mul-pos, mul-le-mul, mul-le-mul_right}
use native.Mathlib.Nat.{le_trans, le_antisymm, lt_of_not-le, le_of_suc-le-suc, not-le_of_lt}
use native.Mathlib.Decide.{dec_le}
use mathlib.Core.Path.{◌≡◌, subst}
use borrow.Author.Tests.{le-leb, lt-leb}
use Rattle.rules.specs.Changes.{raised, root_from, root, RootAtLeast, Nearest, nearest}

-- q fits, and the next number does not
pub record Root (v n q : ℕ) : Type 0 where
  pub reached : q * q * n * n ≤ 10000 * v
  pub passed : 10000 * v < (q + 1) * (q + 1) * n * n

squares : (a b n : ℕ) → a ≤ b → a * a * n * n ≤ b * b * n * n
squares a b n h = mul-le-mul_right n (mul-le-mul_right n (mul-le-mul h h))

-- so it is the greatest that fits
pub greatest : {v n q : ℕ} → Root v n q → (p : ℕ) → p * p * n * n ≤ 10000 * v → p ≤ q
greatest {v} {n} {q} r p h = le_of_suc-le-suc
    (lt_of_not-le (λ (g : q < p). not-le_of_lt r.passed (le_trans (squares (q + 1) p n (omega arith)) h)))

from : (v n bits q : ℕ) → q * q * n * n ≤ 10000 * v → 10000 * v < (q + 2 ^ bits) * (q + 2 ^ bits) * n * n →
    Root v n (root_from v n bits q)
unfolding root_from
from v n zero q h k = record { reached = h; passed = k }
from v n (suc bits) q h k =
    go (dec_le ((q + 2 ^ bits) * (q + 2 ^ bits) * n * n) (10000 * v)) (from v n bits q h)
    (λ g. from v n bits (q + 2 ^ bits) g (subst (λ (x : ℕ). 10000 * v < x * x * n * n) same k))
  where
    same : q + 2 ^ suc bits ≡ q + 2 ^ bits + 2 ^ bits
    same = rw pow-suc (omega arith)

    go : Dec ((q + 2 ^ bits) * (q + 2 ^ bits) * n * n ≤ 10000 * v) →
        (10000 * v < (q + 2 ^ bits) * (q + 2 ^ bits) * n * n → Root v n (root_from v n bits q)) →
        ((q + 2 ^ bits) * (q + 2 ^ bits) * n * n ≤ 10000 * v → Root v n (root_from v n bits (q + 2 ^ bits))) →
        Root v n (root_from v n bits (raised v n (2 ^ bits) q))
    go (yes g) below above = rw (le-leb ((q + 2 ^ bits) * (q + 2 ^ bits) * n * n) (10000 * v) g) (above g)
    go (no g) below above =
        rw (lt-leb ((q + 2 ^ bits) * (q + 2 ^ bits) * n * n) (10000 * v) (lt_of_not-le g)) (below (lt_of_not-le g))

-- q of a picture: 16 bits are enough
pub root-greatest : (v n : ℕ) → 10000 * v < 65536 * 65536 * n * n → Root v n (root v n)
unfolding root
root-greatest v n h = from v n 16 0 (omega arith) h

-- cut off, q of a picture is at most 25,500
pub root-most : {v n q : ℕ} → Root v n q → 0 < n → v ≤ 65025 * (n * n) → q ≤ 25500
root-most {v} {n} {q} r some most =
    le_of_suc-le-suc
    (lt_of_not-le
    (λ (high : 25501 ≤ q).
    omega (arith, r.reached, squares 25501 q n high, mul-pos some some, mul_assoc (25501 * 25501) n n)))

-- ---- rounded to the nearest

half-low : (s p : ℕ) → p < (s + 1) / 2 → p + (s + 1) / 2 ≤ s
half-low s p h = omega arith

half_high : (s p : ℕ) → (s + 1) / 2 < p → s + 1 ≤ p + (s + 1) / 2
half_high s p h = omega arith

-- half of the whole root of 40,000 × V / n², rounded up, is nearest to the root of 10,000 × V / n²: 16 bits are
-- enough
pub nearest-is : (v n : ℕ) → 40000 * v < 65536 * 65536 * n * n → Nearest v n (nearest v n)
unfolding nearest
nearest-is v n h =
    let s = root (4 * v) n in
    let r = root-greatest (4 * v) n (omega arith) in
    let q = (s + 1) / 2 in
    record {
      lower = λ p k. omega (arith, squares (p + q) s n (half-low s p k), r.reached);
      higher = λ p k g. omega (arith, squares (s + 1) (p + q) n (half_high s p k), r.passed, g);
    }

-- and no other number is
not-both : {v n q r : ℕ} → Nearest v n q → Nearest v n r → q < r → ⊥
not-both {v} {n} {q} {r} a b h = a.higher r h (subst (λ (x : ℕ). RootAtLeast v n x 2) (add_comm q r) (b.lower q h))

pub nearest-only : {v n q r : ℕ} → Nearest v n q → Nearest v n r → q ≡ r
nearest-only {v} {n} {q} {r} a b =
    le_antisymm (le_of_suc-le-suc (lt_of_not-le (λ (h : r < q). not-both b a h)))
    (le_of_suc-le-suc (lt_of_not-le (λ (h : q < r). not-both a b h)))

-- it is at most 25,500 too
pub nearest-most : {v n q : ℕ} → Nearest v n q → 0 < n → v ≤ 65025 * (n * n) → q ≤ 25500
nearest-most {v} {n} {q} near some most =
    le_of_suc-le-suc
    (lt_of_not-le
    (λ (high : 25501 ≤ q).
    let at = near.lower 25500 high in
    omega (arith, at, squares 51001 (25500 + q) n (omega arith), mul-pos some some, mul_assoc (51001 * 51001) n n)))
