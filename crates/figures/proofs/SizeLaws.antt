-- Opening: the level and the sizes that follow from it, of any height and width.
use Prim.Native.Nat.{ℕ, zero, suc, ◌-◌, ◌*◌, ◌/◌, ◌%◌, ◌^◌, ◌≤◌, ◌<◌}
use native.Mathlib.Omega.{arith}
use native.Mathlib.Nat.{pow-suc, le_refl, lt_of_not-le, mul-mul-mul_comm, one-mul}
use native.Mathlib.Decide.{dec_le}
use mathlib.Core.Path.{◌≡◌, refl, ap, ◌∙◌}
use lib.Pow.{shl_exact}
use borrow.Author.Tests.{le-leb, lt-leb}
use Rattle.rules.specs.declared.Opening.{Opening}
use Rattle.rules.specs.Opening.{level_up_to, level, side, area, columns, lines}
use Rattle.rules.specs.Pictures.{picture_size}
use Rattle.figures.specs.Opening.{sizes_of}

-- ---- the level

pub level-most : (n h : ℕ) → level_up_to n h ≤ n
unfolding level_up_to
level-most zero h = omega arith
level-most (suc n) h = go (dec_le 30 (h / 2 ^ suc n)) (level-most n h)
  where
    go : Dec (30 ≤ h / 2 ^ suc n) → level_up_to n h ≤ n → level_up_to (suc n) h ≤ suc n
    go (yes y) below = rw (le-leb 30 (h / 2 ^ suc n) y) (le_refl (suc n))
    go (no y) below = rw (lt-leb 30 (h / 2 ^ suc n) (lt_of_not-le y)) (omega arith)

-- level n, where 30 lines or more are left, or fewer
pub level-here : (n h : ℕ) → 1 ≤ n → 30 ≤ h / 2 ^ n → level_up_to n h ≡ n
unfolding level_up_to
level-here zero h p q = absurd (omega arith)
level-here (suc n) h p q = rw (le-leb 30 (h / 2 ^ suc n) q)

pub level-below : (n h : ℕ) → 1 ≤ n → h / 2 ^ n < 30 → level_up_to n h ≡ level_up_to (n - 1) h
unfolding level_up_to
level-below zero h p q = absurd (omega arith)
level-below (suc n) h p q =
    rw (lt-leb 30 (h / 2 ^ suc n) q) (ap (λ (m : ℕ). level_up_to m h) (omega arith))

-- 2^k as the code shifts it, and its square
pub shifted : (k : ℕ) → k ≤ 5 → 1 * 2 ^ k % 2 ^ 64 ≡ 2 ^ k
shifted k h = shl_exact 1 k 64 (omega arith) (omega arith) ∙ one-mul (2 ^ k)

pub squared : (k : ℕ) → 2 ^ k * 2 ^ k ≡ 4 ^ k
squared zero = refl
squared (suc k) = rw (pow-suc 2 k, pow-suc 4 k, mul-mul-mul_comm (2 ^ k) 2 (2 ^ k) 2, squared k)

-- the sizes, from a level and a side
pub sizes-are : (o : Opening) (k s : ℕ) → k ≡ level o → s ≡ side o →
    record {
      level = k;
      side = s;
      area = s * s;
      columns = o.width / s;
      lines = o.height / s;
      picture = o.width * o.height;
    } ≡ sizes_of o
unfolding side area columns lines picture_size
sizes-are o k s p q = rw (p, q, squared (level o))
