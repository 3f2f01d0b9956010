-- Histograms, for any number of pixels: each pixel is counted once, in one bin of one tile, so
-- that the bins total the pixels.
use Prim.Native.Nat.{ℕ, zero, suc, ◌+◌, ◌*◌, ◌/◌, ◌%◌, ◌≤◌, ◌<◌}
use native.Mathlib.Omega.{arith}
use native.Mathlib.Nat.{div-lt_iff_lt-mul, mod-lt, mul_comm}
use native.Mathlib.Decide.{ℕ_discrete}
use mathlib.Core.Path.{◌≡◌, refl, ◌∙◌}
use mathlib.Core.List.{List, [], ◌∷◌, map}
use mathlib.Core.Bool.{Bool, true, false}
use lib.ListN.{length}
use lib.Dec.{eqb}
use borrow.Author.Tests.{eq-eqb, ne_eqb}
use Rattle.rules.specs.declared.Opening.{Opening}
use Rattle.rules.specs.Bytes.{pick, total, count, table, All, empty, and}
use Rattle.rules.specs.Opening.{columns, lines}
use Rattle.rules.specs.Histograms.{third, tile_at, bin, in_tile_from, in_tile, in_bin, histogram, histograms}

-- ---- of n places from `from` on, one equals x if x is among them

one : ℕ → ℕ → ℕ
one x b = pick (eqb x b) 1 0

one_below : (n from x : ℕ) → x < from → total (table n from (one x)) ≡ 0
unfolding total table one
one_below zero from x h = refl
one_below (suc n) from x h =
    let k = one_below n (suc from) x (omega arith) in
    rw (ne_eqb x from (λ (e : x ≡ from). omega arith)) (omega arith)

one-among : (n from x : ℕ) → from ≤ x → x < from + n → total (table n from (one x)) ≡ 1
unfolding total table one
one-among zero from x h k = absurd (omega arith)
one-among (suc n) from x h k = go (ℕ_discrete x from) (λ g. one-among n (suc from) x g (omega arith))
  where
    go : Dec (x ≡ from) → (suc from ≤ x → total (table n (suc from) (one x)) ≡ 1) →
        pick (eqb x from) 1 0 + total (table n (suc from) (one x)) ≡ 1
    go (yes e) ih = let z = one_below n (suc from) x (omega arith) in rw (eq-eqb x from e) (omega arith)
    go (no e) ih = let z = ih (omega arith) in rw (ne_eqb x from e) (omega arith)

-- a table of sums totals the sums
table-sum : (n from : ℕ) (f g h : ℕ → ℕ) → ((b : ℕ) → h b ≡ f b + g b) →
    total (table n from h) ≡ total (table n from f) + total (table n from g)
unfolding total table
table-sum zero from f g h e = omega arith
table-sum (suc n) from f g h e = let k = table-sum n (suc from) f g h e in let z = e from in omega arith

table-zero : (n from : ℕ) (f : ℕ → ℕ) → ((b : ℕ) → f b ≡ 0) → total (table n from f) ≡ 0
unfolding total table
table-zero zero from f e = refl
table-zero (suc n) from f e = let k = table-zero n (suc from) f e in let z = e from in omega arith

-- ---- bins: every value below 256 is in one of the 16

pub bin_small : (v : ℕ) → v < 256 → bin v < 16
unfolding bin
bin_small v h = omega arith

pub bins-total : (vs : List ℕ) → All (λ (v : ℕ). v < 256) vs → total (histogram vs) ≡ length vs
unfolding histogram in_bin count one
bins-total [] empty = table-zero 16 0 (in_bin []) (λ b. refl)
bins-total (v ∷ vs) (and h hs) =
    table-sum 16 0 (one (bin v)) (in_bin vs) (in_bin (v ∷ vs)) (λ b. refl)
    ∙ (let a = one-among 16 0 (bin v) (omega arith) (omega (arith, bin_small v h)) in
    let b = bins-total vs hs in omega arith)

-- ---- tiles: every place of a picture is in one of the nine

pub third-small : (n i : ℕ) → i < n → third n i < 3
unfolding third
third-small n i h =
    let some : 0 < n = omega arith in
    (div-lt_iff_lt-mul {k = n} {x = 3 * i} {y = 3} some).1 (omega arith)

pub tile-small : (w h p : ℕ) → 0 < w → p < w * h → tile_at w h p < 9
unfolding tile_at
tile-small w h p k g =
    let a = third-small h (p / w) ((div-lt_iff_lt-mul {k = w} {x = p} {y = h} k).1 (rw (mul_comm w h) at g)) in
    let b = third-small w (p % w) (mod-lt p k) in
    omega arith

-- the tiles' pixels, from place p on
tiles-from : (w h p : ℕ) (px : List ℕ) → ((q : ℕ) → q < p + length px → tile_at w h q < 9) →
    total (table 9 0 (λ t. length (in_tile_from w h t p px))) ≡ length px
unfolding in_tile_from one
tiles-from w h p [] k = table-zero 9 0 (λ t. length (in_tile_from w h t p [])) (λ t. refl)
tiles-from w h p (v ∷ px) k =
    table-sum 9 0 (one (tile_at w h p)) (λ t. length (in_tile_from w h t (suc p) px))
    (λ t. length (in_tile_from w h t p (v ∷ px))) (λ t. split (eqb (tile_at w h p) t) (in_tile_from w h t (suc p) px))
    ∙ (let a = one-among 9 0 (tile_at w h p) (omega arith) (omega (arith, k p (omega arith))) in
    let b = tiles-from w h (suc p) px (λ q g. k q (omega arith)) in
    omega arith)
  where
    split : (b : Bool) (more : List ℕ) → length (pick b (v ∷ more) more) ≡ pick b 1 0 + length more
    split true more = omega arith
    split false more = omega arith

tiles-total : (o : Opening) (px : List ℕ) → 0 < columns o → length px ≡ columns o * lines o →
    total (table 9 0 (λ t. length (in_tile o t px))) ≡ length px
unfolding in_tile
tiles-total o px k e =
    tiles-from (columns o) (lines o) 0 px (λ q g. tile-small (columns o) (lines o) q k (omega arith))

-- ---- both: the bins of a picture's nine histograms total its pixels

pub in-tile : (w h t p : ℕ) (px : List ℕ) → All (λ (v : ℕ). v < 256) px →
    All (λ (v : ℕ). v < 256) (in_tile_from w h t p px)
unfolding in_tile_from
in-tile w h t p [] empty = empty
in-tile w h t p (v ∷ px) (and k ks) = go (eqb (tile_at w h p) t) (in-tile w h t (suc p) px ks)
  where
    go : (b : Bool) {more : List ℕ} → All (λ (x : ℕ). x < 256) more →
        All (λ (x : ℕ). x < 256) (pick b (v ∷ more) more)
    go true r = and k r
    go false r = r

totals : (n from : ℕ) (f : ℕ → List ℕ) (g : ℕ → ℕ) → ((t : ℕ) → total (f t) ≡ g t) →
    total (map total (table n from f)) ≡ total (table n from g)
unfolding total table
totals zero from f g e = refl
totals (suc n) from f g e = let k = totals n (suc from) f g e in let z = e from in omega arith

pub histograms-total : (o : Opening) (px : List ℕ) → 0 < columns o → length px ≡ columns o * lines o →
    All (λ (v : ℕ). v < 256) px →
    total (map total (histograms o px)) ≡ columns o * lines o
unfolding histograms in_tile
histograms-total o px k e small =
    totals 9 0 (λ t. histogram (in_tile o t px)) (λ t. length (in_tile o t px))
    (λ t. bins-total (in_tile o t px) (in-tile (columns o) (lines o) t 0 px small))
    ∙ tiles-total o px k e
    ∙ e
