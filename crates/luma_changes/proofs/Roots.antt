-- Changes: a number that fits, with the next one too large, is the rule's root; and four times V is small enough for
-- 64 bits.
use Rattle.std.proofs.Common.{◌≡◌, ℕ, ◌*◌, ◌<◌, ◌≤◌, le_trans, mul_assoc, mul_comm, mul-le-mul, le_antisymm}
use Rattle.std.proofs.Common.{mul-le-mul_left, mul-pos, sub-le, arith}
use Rattle.rules.specs.Bytes.{apart}
use Rattle.rules.specs.Changes.{root}
use Rattle.luma_laws.proofs.Changes.{Root, greatest, root-greatest, root-most}
use Rattle.luma_changes.specs.Changes.{Asked, spread_of}

-- 10,000 V is below q² n² for every q from 51,001 on
pub start : {v n : ℕ} → Asked v n → 10000 * v < 51001 * 51001 * n * n
start {v} {n} a = omega (arith, mul_assoc (51001 * 51001) n n, mul-pos a.some a.some, a.bounded)

fits : {v n : ℕ} → Asked v n → Root v n (root v n)
fits {v} {n} a =
    root-greatest v n (omega (arith, mul_assoc (65536 * 65536) n n, mul-pos a.some a.some, a.bounded))

pub root_is : {v n q : ℕ} → Asked v n → Root v n q → q ≡ root v n
root_is {v} {n} {q} a r = le_antisymm (greatest (fits a) q r.reached) (greatest r (root v n) (fits a).reached)

-- V is at most n × sum of e², and that at most n × n × 255²
spread-most : (n up down squares : ℕ) → squares ≤ 65025 * n → spread_of n up down squares ≤ n * n * 65025
unfolding spread_of
spread-most n up down squares h =
    le_trans (sub-le (n * squares) (apart up down * apart up down))
    (omega (arith, mul-le-mul_left n h, mul_comm 65025 n, mul_assoc n n 65025))

-- so four times V fits 64 bits by far
pub spread-few : (n up down squares : ℕ) → n ≤ 14101 → squares ≤ 65025 * n →
    spread_of n up down squares ≤ 12929454020025
spread-few n up down squares b h = le_trans (spread-most n up down squares h) (omega (arith, mul-le-mul b b))

module _ (n up down squares : ℕ) (a : 1 ≤ n) (b : n ≤ 14101) (h : squares ≤ 65025 * n) where
  pub asked : Asked (spread_of n up down squares) n
  asked = record { some = a; few = b; bounded = omega (arith, spread-most n up down squares h) }

  pub asked-four : Asked (4 * spread_of n up down squares) n
  asked-four = record { some = a; few = b; bounded = omega (arith, spread-most n up down squares h) }

  -- cut off, q is at most 25,500
  pub root-few : root (spread_of n up down squares) n ≤ 25500
  root-few = root-most (fits asked) a (omega (arith, spread-most n up down squares h))
