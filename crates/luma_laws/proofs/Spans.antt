-- The figures of pictures i to before j, taken picture by picture.
use Prim.Native.Nat.{ℕ, zero, suc, ◌+◌, ◌-◌, ◌*◌, ◌≤◌, ◌<◌, max}
use native.Mathlib.Omega.{arith}
use native.Mathlib.Nat.{sub_self, mul-suc}
use native.Mathlib.Numerals.{add-one}
use mathlib.Core.Path.{◌≡◌, refl}
use mathlib.Core.List.{List, [], ◌∷◌}
use mathlib.Core.Bool.{Bool, true, false, not}
use lib.ListN.{length, get_or, take, drop, length-drop}
use lib.Seq.{drop-cons, take-suc, get_or-drop}
use Rattle.rules.specs.Bytes.{pick, total, greatest_of, count}
use Rattle.rules.specs.Scenes.{span, is_true, longest_from}
use Rattle.rules.proofs.Laws.Lists.{total-append, larger-max}

module _ {A : Type 0} where
  span_none : (j : ℕ) (xs : List A) → span j j xs ≡ []
  span_none j xs = rw (sub_self j)

  span-cons : (k j : ℕ) (xs : List A) (e : A) → k < j → j ≤ length xs →
      span k j xs ≡ get_or xs k e ∷ span (k + 1) j xs
  span-cons k j xs e h g =
      let n : j - k ≡ suc (j - (k + 1)) = omega arith in
      rw (n, drop-cons xs k e (omega arith), add-one k)

-- ---- sums

pub total-end : (j : ℕ) (xs : List ℕ) → total (span j j xs) ≡ 0
unfolding total
total-end j xs = rw (span_none j xs)

pub total-step : (k j : ℕ) (xs : List ℕ) → k < j → j ≤ length xs →
    total (span k j xs) ≡ get_or xs k 0 + total (span (k + 1) j xs)
unfolding total
total-step k j xs h g = rw (span-cons k j xs 0 h g)

-- one more at the end
pub total-more : (k j : ℕ) (xs : List ℕ) → k ≤ j → j < length xs →
    total (span k (j + 1) xs) ≡ total (span k j xs) + get_or xs j 0
unfolding total
total-more k j xs h g =
    let n : j + 1 - k ≡ suc (j - k) = omega arith in
    let e : k + (j - k) ≡ j = omega arith in
    rw (
      n,
      take-suc (drop k xs) (j - k) 0 (simp length-drop (omega arith)),
      total-append (take (j - k) (drop k xs)) (get_or (drop k xs) (j - k) 0 ∷ []),
      get_or-drop k xs (j - k) 0,
      e,
    )
    (omega arith)

-- n figures, each at most `most`
pub total-most : (most k j n : ℕ) (xs : List ℕ) → ((i : ℕ) → i < n → get_or xs i 0 ≤ most) → length xs ≡ n → j ≤ n →
    total (span k j xs) ≤ most * (j - k)
unfolding total
total-most most k j n xs f e h = go (j - k) k refl
  where
    go : (m k : ℕ) → j - k ≡ m → total (span k j xs) ≤ most * m
    go zero k g = rw g (omega arith)
    go (suc m) k g =
        let a = go m (k + 1) (omega arith) in
        let b = total-step k j xs (omega arith) (omega arith) in
        let c = f k (omega arith) in
        rw (mul-suc most m) (omega arith)

-- ---- the greatest

pub peak-end : (j : ℕ) (xs : List ℕ) → greatest_of (span j j xs) ≡ 0
unfolding greatest_of
peak-end j xs = rw (span_none j xs)

pub peak-step : (k j : ℕ) (xs : List ℕ) → k < j → j ≤ length xs →
    greatest_of (span k j xs) ≡ max (get_or xs k 0) (greatest_of (span (k + 1) j xs))
unfolding greatest_of
peak-step k j xs h g = rw (span-cons k j xs 0 h g) (larger-max (get_or xs k 0) (greatest_of (span (k + 1) j xs)))

-- ---- repeats

pub repeated-end : (j : ℕ) (rs : List Bool) → count is_true (span j j rs) ≡ 0
unfolding count
repeated-end j rs = rw (span_none j rs)

pub repeated-step : (k j : ℕ) (rs : List Bool) → k < j → j ≤ length rs →
    count is_true (span k j rs) ≡ pick (get_or rs k false) 1 0 + count is_true (span (k + 1) j rs)
unfolding count
repeated-step k j rs h g = rw (span-cons k j rs false h g)

pub longest-end : (run j : ℕ) (rs : List Bool) → longest_from run (span j j rs) ≡ run
unfolding longest_from
longest-end run j rs = rw (span_none j rs)

pub longest-true : (run k j : ℕ) (rs : List Bool) → k < j → j ≤ length rs → get_or rs k false ≡ true →
    longest_from run (span k j rs) ≡ longest_from (run + 1) (span (k + 1) j rs)
unfolding longest_from
longest-true run k j rs h g e = rw (span-cons k j rs false h g, e, add-one run)

pub longest-false : (run k j : ℕ) (rs : List Bool) → k < j → j ≤ length rs → get_or rs k false ≡ false →
    longest_from run (span k j rs) ≡ max run (longest_from 0 (span (k + 1) j rs))
unfolding longest_from
longest-false run k j rs h g e =
    rw (span-cons k j rs false h g, e) (larger-max run (longest_from 0 (span (k + 1) j rs)))

-- a run that goes on is no shorter
pub longest-least : (run : ℕ) (rs : List Bool) → run ≤ longest_from run rs
unfolding longest_from
longest-least run [] = omega arith
longest-least run (true ∷ rs) = let h = longest-least (suc run) rs in omega arith
longest-least run (false ∷ rs) = rw (larger-max run (longest_from 0 rs)) (omega arith)

-- a run is among those that are repeated, the greatest among those that are summed
pub longest-most : (run : ℕ) (rs : List Bool) → longest_from run rs ≤ run + count is_true rs
unfolding longest_from count
longest-most run [] = omega arith
longest-most run (true ∷ rs) = let h = longest-most (suc run) rs in omega arith
longest-most run (false ∷ rs) = let h = longest-most 0 rs in rw (larger-max run (longest_from 0 rs)) (omega arith)

pub peak-most : (xs : List ℕ) → greatest_of xs ≤ total xs
unfolding greatest_of total
peak-most [] = omega arith
peak-most (x ∷ xs) = let h = peak-most xs in rw (larger-max x (greatest_of xs)) (omega arith)

-- those that are repeated and those that are not are all
pub both : (rs : List Bool) → count is_true rs + count not rs ≡ length rs
unfolding count
both [] = refl
both (true ∷ rs) = let h = both rs in omega arith
both (false ∷ rs) = let h = both rs in omega arith
