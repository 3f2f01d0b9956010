-- s and q of a repeated picture are 0, so their sums go by the pictures that are not; and each run of repeated ones
-- follows one that is not.
use Prim.Native.Nat.{ℕ, zero, suc, ◌+◌, ◌-◌, ◌*◌, ◌≤◌, ◌<◌, max}
use native.Mathlib.Omega.{arith}
use native.Mathlib.Nat.{mul-suc, mul-one, mul-zero, mul-pos, mul-le-mul_right, zero-add}
use mathlib.Core.Path.{◌≡◌, refl, sym}
use mathlib.Core.List.{List, [], ◌∷◌}
use mathlib.Core.Bool.{Bool, true, false, not, false≢true}
use lib.ListN.{length, get_or, take, drop}
use lib.Dec.{eqb}
use borrow.Author.Tests.{eqb-true}
use Rattle.rules.specs.Bytes.{total, count, All, and, empty}
use Rattle.rules.specs.Changes.{same, squares, spread, root, nearest, change_from, change, repeats_after, repeats}
use Rattle.rules.specs.Changes.{changes_after, changes}
use Rattle.rules.specs.Scenes.{is_true, longest_from}
use Rattle.rules.proofs.Laws.Lists.{both, larger-max}
use Rattle.luma_laws.proofs.Changes.{root-greatest}
use Rattle.luma_laws.proofs.Ranges.{AtMost}

-- ---- a figure of each picture that is 0 where it is repeated

pub data Still : List ℕ → List Bool → Type 0 where
  none : Still [] []
  fresh : {x : ℕ} {xs : List ℕ} {bs : List Bool} → Still xs bs → Still (x ∷ xs) (false ∷ bs)
  again : {x : ℕ} {xs : List ℕ} {bs : List Bool} → x ≡ 0 → Still xs bs → Still (x ∷ xs) (true ∷ bs)

pub still-of : (xs : List ℕ) (bs : List Bool) → length xs ≡ length bs →
    ((i : ℕ) → get_or bs i false ≡ true → get_or xs i 0 ≡ 0) → Still xs bs
still-of [] [] n h = none
still-of [] (b ∷ bs) n h = absurd (omega arith)
still-of (x ∷ xs) [] n h = absurd (omega arith)
still-of (x ∷ xs) (false ∷ bs) n h = fresh (still-of xs bs (omega arith) (λ i. h (suc i)))
still-of (x ∷ xs) (true ∷ bs) n h = again (h 0 refl) (still-of xs bs (omega arith) (λ i. h (suc i)))

pub still-drop : (n : ℕ) {xs : List ℕ} {bs : List Bool} → Still xs bs → Still (drop n xs) (drop n bs)
still-drop zero s = s
still-drop (suc n) none = none
still-drop (suc n) (fresh s) = still-drop n s
still-drop (suc n) (again e s) = still-drop n s

pub still-take : (n : ℕ) {xs : List ℕ} {bs : List Bool} → Still xs bs → Still (take n xs) (take n bs)
still-take zero s = none
still-take (suc n) none = none
still-take (suc n) (fresh s) = fresh (still-take n s)
still-take (suc n) (again e s) = again e (still-take n s)

one_more : (m n : ℕ) → m * (1 + n) ≡ m + m * n
one_more m n = let e : 1 + n ≡ suc n = omega arith in rw (e, mul-suc m n) (omega arith)

module _ (most : ℕ) where
  pub still-total : {xs : List ℕ} {bs : List Bool} → Still xs bs → All (AtMost most) xs →
      total xs ≤ most * count not bs
  unfolding total count
  still-total none empty = omega arith
  still-total (fresh {bs = bs} s) (and h hs) =
      let t = still-total s hs in
      rw (one_more most (count not bs)) (omega arith)
  still-total (again {bs = bs} e s) (and h hs) =
      let t = still-total s hs in
      rw (zero-add (count not bs)) (omega arith)

  -- the first is not repeated, and its figure is 0
  pub first-total : {xs : List ℕ} {bs : List Bool} → Still xs bs → All (AtMost most) xs → get_or xs 0 0 ≡ 0 →
      get_or bs 0 false ≡ false → total xs ≤ most * (count not bs - 1)
  unfolding total count
  first-total none empty e f = omega arith
  first-total (fresh {bs = bs} s) (and h hs) e f =
      let t = still-total s hs in
      let n : 1 + count not bs - 1 ≡ count not bs = omega arith in
      rw n (omega arith)
  first-total (again z s) (and h hs) e f = absurd (false≢true (sym f))

-- ---- runs

runs-most : (run : ℕ) (rs : List Bool) → run + count is_true rs ≤ longest_from run rs * suc (count not rs)
unfolding longest_from count
runs-most run [] = rw (mul-one run) (omega arith)
runs-most run (true ∷ rs) =
    let h = runs-most (suc run) rs in
    rw (zero-add (count not rs)) (omega arith)
runs-most run (false ∷ rs) =
    let h = runs-most 0 rs in
    let l = longest_from 0 rs in
    let m = max run l in
    let n = suc (count not rs) in
    let e : suc (1 + count not rs) ≡ suc n = omega arith in
    let high : l ≤ m = omega arith in
    rw (larger-max run l, e, mul-suc m n) (omega (arith, mul-le-mul_right n high))

pub runs-first : (rs : List Bool) → get_or rs 0 false ≡ false → count is_true rs ≤ longest_from 0 rs * count not rs
unfolding longest_from count
runs-first [] f = omega arith
runs-first (true ∷ rs) f = absurd (false≢true (sym f))
runs-first (false ∷ rs) f =
    let h = runs-most 0 rs in
    let e : 1 + count not rs ≡ suc (count not rs) = omega arith in
    let m : max 0 (longest_from 0 rs) ≡ longest_from 0 rs = omega arith in
    rw (larger-max 0 (longest_from 0 rs), m, e) (omega arith)

-- ---- pixels that all equal are one picture

pub same-one : (xs ys : List ℕ) → same xs ys ≡ true → xs ≡ ys
unfolding same
same-one [] [] e = refl
same-one [] (y ∷ ys) e = absurd (false≢true e)
same-one (x ∷ xs) [] e = absurd (false≢true e)
same-one (x ∷ xs) (y ∷ ys) e =
    let b = both (eqb x y) (same xs ys) e in
    rw (eqb-true x y b.0, same-one xs ys b.1)

-- ---- q of a picture and itself is 0

squares-self : (xs : List ℕ) → squares xs xs ≡ 0
unfolding squares
squares-self [] = refl
squares-self (x ∷ xs) =
    let z : x - x + (x - x) ≡ 0 = omega arith in
    rw (z, squares-self xs)

spread-self : (xs : List ℕ) → spread xs xs ≡ 0
unfolding spread
spread-self xs = rw (squares-self xs, mul-zero (length xs)) (omega arith)

none-fits : (q n : ℕ) → 0 < n → q * q * n * n ≤ 10000 * 0 → q ≡ 0
none-fits zero n h k = refl
none-fits (suc q) n h k =
    let s : 0 < suc q = omega arith in
    absurd (omega (arith, mul-pos (mul-pos (mul-pos s s) h) h))

root_none : (n : ℕ) → 0 < n → root 0 n ≡ 0
root_none n h =
    let s : 0 < 65536 * 65536 = omega arith in
    let few : 10000 * 0 < 65536 * 65536 * n * n = omega (arith, mul-pos (mul-pos s h) h) in
    none-fits (root 0 n) n h (root-greatest 0 n few).reached

change-self : (rounds : Bool) (px : List ℕ) → 0 < length px → change rounds px px ≡ 0
unfolding change change_from nearest
change-self rounds px h = rw (spread-self px) (go rounds)
  where
    go : (b : Bool) → change_from b 0 (length px) ≡ 0
    go true = rw (root_none (length px) h)
    go false = root_none (length px) h

-- ---- so q of a repeated picture is 0

abbrev Some : List ℕ → Type 0
Some px = 0 < length px

after-still : (rounds : Bool) (before : List ℕ) (pxs : List (List ℕ)) → All Some pxs →
    Still (changes_after rounds before pxs) (repeats_after before pxs)
unfolding changes_after repeats_after
after-still rounds before [] empty = none
after-still rounds before (px ∷ pxs) (and h hs) = go (same before px) refl (after-still rounds px pxs hs)
  where
    go : (t : Bool) → same before px ≡ t → Still (changes_after rounds px pxs) (repeats_after px pxs) →
        Still (change rounds before px ∷ changes_after rounds px pxs) (t ∷ repeats_after px pxs)
    go true e s = again {x = change rounds before px} (rw (same-one before px e) (change-self rounds px h)) s
    go false e s = fresh s

pub changes-still : (rounds : Bool) (pxs : List (List ℕ)) → All Some pxs →
    Still (changes rounds pxs) (repeats pxs)
unfolding changes repeats
changes-still rounds [] empty = none
changes-still rounds (px ∷ pxs) (and h hs) = fresh (after-still rounds px pxs hs)

-- picture 0's q is 0
pub first-change : (rounds : Bool) (pxs : List (List ℕ)) → get_or (changes rounds pxs) 0 0 ≡ 0
unfolding changes
first-change rounds [] = refl
first-change rounds (px ∷ pxs) = refl
