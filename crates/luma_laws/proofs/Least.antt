-- m is the least whole number for which m × d reaches 600,000, and (599,999 + d) / d is it.
use Prim.Native.Nat.{ℕ, zero, suc, ◌+◌, ◌*◌, ◌/◌, ◌≤◌, ◌<◌}
use native.Mathlib.Omega.{arith}
use native.Mathlib.Nat.{suc-mul, lt-div-mul-add, div-lt_iff_lt-mul}
use native.Mathlib.Decide.{ℕ_discrete}
use mathlib.Core.Path.{◌≡◌, refl}
use mathlib.Core.Bool.{Bool, true, false}
use lib.Dec.{leb}
use borrow.Author.Tests.{leb-true, leb-false}
use Rattle.rules.specs.Bytes.{pick}
use Rattle.rules.specs.Opening.{good_time}
use Rattle.rules.proofs.Laws.Lists.{inside}
use Rattle.luma_laws.proofs.Scenes.{three}
use Rattle.rules.specs.Busiest.{reaching_from, least_between, LeastReaching, BetweenIsLeast}

-- there is one such number
one-least : (d m n : ℕ) → LeastReaching d m → LeastReaching d n → m ≡ n
one-least d m n a b = omega (arith, a.least n b.reaches, b.least m a.reaches)

reaching : (d more n : ℕ) → ((k : ℕ) → 600000 ≤ k * d → n ≤ k) → 600000 ≤ (n + more) * d →
    LeastReaching d (reaching_from d more n)
unfolding reaching_from
reaching d zero n low high =
    let same : n + 0 ≡ n = omega arith in
    record { reaches = rw same at high; least = low }
reaching d (suc more) n low high =
    let same : n + suc more ≡ suc n + more = omega arith in
    go (leb 600000 (n * d)) refl (λ later. reaching d more (suc n) later (rw same at high))
  where
    go : (b : Bool) → leb 600000 (n * d) ≡ b →
        (((k : ℕ) → 600000 ≤ k * d → suc n ≤ k) → LeastReaching d (reaching_from d more (suc n))) →
        LeastReaching d (pick b n (reaching_from d more (suc n)))
    go true e f = record { reaches = leb-true 600000 (n * d) e; least = low }
    go false e f = f (λ k h. later k h (ℕ_discrete k n))
      where
        later : (k : ℕ) → 600000 ≤ k * d → Dec (k ≡ n) → suc n ≤ k
        later k h (yes g) = absurd (omega (arith, leb-false 600000 (n * d) e, rw g at h))
        later k h (no g) = let l = low k h in omega arith

pub between_is : (d : ℕ) → 10000 ≤ d → LeastReaching d (least_between d)
unfolding least_between
between_is d h = reaching d 60 0 (λ k l. omega arith) (omega arith)

-- as it is worked out
pub between-found : (d : ℕ) → 10000 ≤ d → (599999 + d) / d ≡ least_between d
between-found d h = one-least d ((599999 + d) / d) (least_between d) found (between_is d h)
  where
    some : 0 < d
    some = omega arith

    least : (n : ℕ) → 600000 ≤ n * d → (599999 + d) / d < suc n
    least n l = (div-lt_iff_lt-mul some).1 (omega (arith, suc-mul n d))

    found : LeastReaching d ((599999 + d) / d)
    found =
        record {
          reaches = omega (arith, lt-div-mul-add {a = 599999 + d} {b = d} some);
          least = λ n l. let k = least n l in omega arith;
        }

-- a scene has at least three pictures
pub between-three : (d : ℕ) → 10000 ≤ d → d ≤ 200000 → 3 ≤ least_between d
between-three d low high = three d high (least_between d) (between_is d low).reaches

-- of a d that is not refused
pub good-time : (d : ℕ) → good_time d ≡ true → (10000 ≤ d) × (d ≤ 200000)
unfolding good_time
good-time d e = inside 10000 200000 d e

pub good-between : (d : ℕ) → good_time d ≡ true → 3 ≤ least_between d
good-between d e = let t = good-time d e in between-three d t.0 t.1

pub between-is-least : BetweenIsLeast
between-is-least d e = between_is d (good-time d e).0
