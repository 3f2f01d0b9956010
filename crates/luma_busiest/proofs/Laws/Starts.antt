-- With cut scores of 1,000,000 at multiples of m and 0 between, the starts are the multiples with two pictures behind
-- them.
use Prim.Native.Nat.{ℕ, zero, suc, ◌+◌, ◌-◌, ◌*◌, ◌≤◌, ◌<◌}
use native.Mathlib.Omega.{arith}
use native.Mathlib.Nat.{suc-mul}
use native.Mathlib.Decide.{dec_lt}
use mathlib.Core.Path.{◌≡◌, refl, sym, ap, ◌∙◌}
use mathlib.Core.Bool.{Bool, true, false}
use mathlib.Core.List.{List, [], ◌∷◌}
use lib.ListN.{length, get_or}
use borrow.Author.Tests.{le-leb, lt-ltb}
use Rattle.rules.specs.Bytes.{pick, total, table}
use Rattle.rules.specs.Scenes.{span, starts_scene, is_start, starts_from}
use Rattle.luma_laws.proofs.Scenes.{start-long, start-cut}
use Rattle.luma_laws.proofs.Spans.{total-end, total-step}
use Rattle.rules.specs.Busiest.{LeastReaching}

span-zero : (n k j : ℕ) (xs : List ℕ) → k + n ≡ j → j ≤ length xs →
    ((i : ℕ) → k ≤ i → i < j → get_or xs i 0 ≡ 0) → total (span k j xs) ≡ 0
span-zero zero k j xs e h z = let same : k ≡ j = omega arith in rw same (total-end j xs)
span-zero (suc n) k j xs e h z =
    omega (
      arith,
      total-step k j xs (omega arith) h,
      z k (omega arith) (omega arith),
      span-zero n (k + 1) j xs (omega arith) h (λ i l. z i (omega arith)),
    )

-- a start whose score is 1,000,000, m pictures after the one before, with nothing between
lone-start : (d : ℕ) (ss : List ℕ) (b m : ℕ) → 600000 ≤ m * d → 3 ≤ m →
    get_or ss (b + m) 0 ≡ 1000000 → total (span (b + 1) (b + m) ss) ≡ 0 → is_start d ss b (b + m) ≡ true
unfolding is_start starts_scene
lone-start d ss b m long three s sum =
    let gap : b + m - b ≡ m = omega arith in
    rw (gap, s, sum, le-leb 600000 (m * d) long) (lt-ltb (5 * 0) (1000000 * (m - 1)) (omega arith))

-- scores that are 0 except at multiples of m, and 1,000,000 at each of those behind 0 with two pictures behind it
pub record Peaks (m : ℕ) (ss : List ℕ) : Type 0 where
  pub between : (t i : ℕ) → t * m < i → i < suc t * m → get_or ss i 0 ≡ 0
  pub there : (t : ℕ) → suc t * m + 2 < length ss → get_or ss (suc t * m) 0 ≡ 1000000

module _ (d m : ℕ) (ss : List ℕ) (m-least : LeastReaching d m) (three : 3 ≤ m) (peaks : Peaks m ss) where
  starts-here : (t : ℕ) → suc t * m + 2 < length ss → is_start d ss (t * m) (suc t * m) ≡ true
  starts-here t h =
      let next = suc-mul t m in
      let from = t * m + 1 in
      let end = suc t * m in
      let none : (i : ℕ) → from ≤ i → i < end → get_or ss i 0 ≡ 0 = λ i l k. peaks.between t i (omega arith) k in
      let sum = span-zero (m - 1) from end ss (omega arith) (omega arith) none in
      rw next (lone-start d ss (t * m) m m-least.reaches three (rw next at (peaks.there t h)) (rw next at sum))

  -- q multiples of m behind 0 have two pictures behind them, and no more have
  module _ (q : ℕ) (inside : (t : ℕ) → t < q → suc t * m + 2 < length ss) (outside : length ss ≤ suc q * m + 2)
      (cut : (i : ℕ) → 1000 < get_or ss i 0 → i + 2 < length ss) where
    -- behind the last of them nothing starts
    none-behind : (n i : ℕ) → q * m < i → starts_from d ss n (q * m) i ≡ []
    unfolding starts_from
    none-behind zero i h = refl
    none-behind (suc n) i h = go (is_start d ss (q * m) i) refl (none-behind n (suc i) (omega arith))
      where
        go : (b : Bool) → is_start d ss (q * m) i ≡ b → starts_from d ss n (q * m) (suc i) ≡ [] →
            pick b (i ∷ starts_from d ss n i (suc i)) (starts_from d ss n (q * m) (suc i)) ≡ []
        go true s more =
            let long = m-least.least (i - q * m) (start-long d ss (q * m) i s) in
            let here = cut i (start-cut d ss (q * m) i s) in
            absurd (omega (arith, suc-mul q m))
        go false s more = more

    at_last : (n t i : ℕ) → t ≡ q → t * m < i → starts_from d ss n (t * m) i ≡ []
    at_last n t i same h = rw same (none-behind n i (rw same at h))

    -- with the last start t × m, picture i not past the next multiple and n left, the multiples behind t follow
    pub named-starts : (n t i : ℕ) → t ≤ q → t * m < i → i ≤ suc t * m → i + n ≡ length ss →
        starts_from d ss n (t * m) i ≡ table (q - t) (suc t) (λ s. s * m)
    unfolding starts_from table
    named-starts zero t i most low high e = elim (dec_lt t q) [
      | yes l ↦ absurd (omega (arith, inside t l))
      | no l ↦ let none : q - t ≡ 0 = omega arith in rw none
    ]
    named-starts (suc n) t i most low high e =
        go (is_start d ss (t * m) i) refl (dec_lt t q)
        (λ l here. rw (sym here) at
        (named-starts n (suc t) (suc i) (omega arith) (omega arith) (omega (arith, suc-mul (suc t) m)) (omega arith)))
        (λ l. named-starts n t (suc i) most (omega arith) l (omega arith))
        (λ l. at_last (suc n) t i (omega arith) low)
      where
        go : (b : Bool) → is_start d ss (t * m) i ≡ b → Dec (t < q) →
            (t < q → i ≡ suc t * m → starts_from d ss n i (suc i) ≡ table (q - suc t) (suc (suc t)) (λ s. s * m)) →
            (i < suc t * m → starts_from d ss n (t * m) (suc i) ≡ table (q - t) (suc t) (λ s. s * m)) →
            ((t < q → ⊥) →
            pick (is_start d ss (t * m) i) (i ∷ starts_from d ss n i (suc i)) (starts_from d ss n (t * m) (suc i))
            ≡ []) →
            pick b (i ∷ starts_from d ss n i (suc i)) (starts_from d ss n (t * m) (suc i)) ≡
            table (q - t) (suc t) (λ s. s * m)
        go true s (yes l) past on behind =
            let long = m-least.least (i - t * m) (start-long d ss (t * m) i s) in
            let here : i ≡ suc t * m = omega (arith, suc-mul t m) in
            let more : q - t ≡ suc (q - suc t) = omega arith in
            rw more
            (ap (λ (x : ℕ). x ∷ starts_from d ss n i (suc i)) here ∙ ap (λ (r : List ℕ). suc t * m ∷ r) (past l here))
        go false s (yes l) past on behind = later (dec_lt i (suc t * m))
          where
            later : Dec (i < suc t * m) → starts_from d ss n (t * m) (suc i) ≡ table (q - t) (suc t) (λ s. s * m)
            later (yes k) = on k
            later (no k) =
                let here : i ≡ suc t * m = omega arith in
                let z : ◌≡◌ {A = ℕ} 0 1 = cc (s, here, starts-here t (inside t l)) in
                absurd (omega arith)
        go b s (no l) past on behind = let none : q - t ≡ 0 = omega arith in rw none (rw s at (behind l))
