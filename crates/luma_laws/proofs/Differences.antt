-- Differences and cut scores are at most 1,000,000.
use Prim.Native.Nat.{ℕ, zero, suc, ◌+◌, ◌-◌, ◌*◌, ◌≤◌, ◌<◌}
use native.Mathlib.Omega.{arith}
use native.Mathlib.Nat.{div-le_of_le-mul, lt_of_not-le}
use native.Mathlib.Decide.{dec_le}
use borrow.Author.Tests.{leb-false, ltb-true}
use mathlib.Core.Path.{◌≡◌, refl, sym, ap, ◌∙◌}
use mathlib.Core.Bool.{Bool, true, false, ◌&&◌}
use mathlib.Core.List.{List, [], ◌∷◌, map}
use lib.ListN.{length, get_or, length-map, get_or-eq_default}
use lib.Dec.{leb, ltb}
use Rattle.rules.specs.declared.Opening.{Opening}
use Rattle.rules.specs.Bytes.{pick, total, smaller, parts, All, empty, and, Bytes}
use Rattle.rules.specs.Opening.{columns, lines}
use Rattle.rules.specs.Pictures.{picture_size, picture_count, pictures, pixels}
use Rattle.rules.specs.Histograms.{in_tile, histogram, histograms}
use Rattle.rules.specs.Cuts.{bins_apart, per_million, tile_difference, tile_differences, insert, sorted, fifth}
use Rattle.rules.specs.Cuts.{difference}
use Rattle.rules.specs.Cuts.{least_of_six, at, cut_score}
use Rattle.rules.specs.Seal.{reduced}
use Rattle.rules.proofs.Laws.Lists.{length-table, by-test}
use Rattle.luma_laws.proofs.Tables.{get_or-mapped}
use Rattle.luma_laws.proofs.Pictures.{all-parts, pixels-length, pixels-small}
use Rattle.luma_laws.proofs.Tiles.{tile-total, tile-same}

-- ---- of two tiles

-- D is at most the pixels of both, for any bins and any n
pub bins-most : (xs ys : List ℕ) → bins_apart xs ys ≤ total xs + total ys
unfolding bins_apart total
bins-most [] ys = omega arith
bins-most (x ∷ xs) [] = omega arith
bins-most (x ∷ xs) (y ∷ ys) = omega (arith, bins-most xs ys)

pub bins-twice : (xs ys : List ℕ) → total xs ≡ total ys → bins_apart xs ys ≤ 2 * total xs
bins-twice xs ys e = omega (arith, bins-most xs ys)

tile-most : (xs ys : List ℕ) → total xs ≡ total ys → tile_difference xs ys ≤ 1000000
unfolding tile_difference per_million
tile-most xs ys e = div-le_of_le-mul (2 * total xs) (omega (arith, bins-twice xs ys e))

-- ---- of two pictures: each tile has as many pixels in one as in the other

abbrev pub Alike : List (List ℕ) → List (List ℕ) → Type 0
Alike xs ys = (t : ℕ) → total (get_or xs t []) ≡ total (get_or ys t [])

Small : List ℕ → Type 0
Small ds = All (λ (d : ℕ). d ≤ 1000000) ds

tiles-most : (xs ys : List (List ℕ)) → Alike xs ys → Small (tile_differences xs ys)
unfolding tile_differences Small
tiles-most [] ys e = empty
tiles-most (x ∷ xs) [] e = empty
tiles-most (x ∷ xs) (y ∷ ys) e = and (tile-most x y (e 0)) (tiles-most xs ys (λ t. e (suc t)))

insert-small : (d : ℕ) (ds : List ℕ) → d ≤ 1000000 → Small ds → Small (insert d ds)
unfolding insert Small
insert-small d [] h empty = and h empty
insert-small d (e ∷ ds) h (and k ks) = go (leb d e) (insert-small d ds h ks)
  where
    go : (b : Bool) → Small (insert d ds) → Small (pick b (d ∷ e ∷ ds) (e ∷ insert d ds))
    go true more = and h (and k ks)
    go false more = and k more

sorted-small : (ds : List ℕ) → Small ds → Small (sorted ds)
unfolding sorted Small
sorted-small [] empty = empty
sorted-small (d ∷ ds) (and h hs) = insert-small d (sorted ds) h (sorted-small ds hs)

one-small : (ds : List ℕ) (i : ℕ) → Small ds → get_or ds i 0 ≤ 1000000
unfolding Small
one-small [] i empty = omega arith
one-small (d ∷ ds) zero (and h hs) = h
one-small (d ∷ ds) (suc i) (and h hs) = one-small ds i hs

pub difference-most : (xs ys : List (List ℕ)) → Alike xs ys → difference xs ys ≤ 1000000
unfolding difference fifth
difference-most xs ys e =
    one-small (sorted (tile_differences xs ys)) 4 (sorted-small (tile_differences xs ys) (tiles-most xs ys e))

-- ---- a cut score

smaller-first : (a b : ℕ) → smaller a b ≤ a
smaller-first a b =
    by-test (λ (x : Bool). pick x a b ≤ a) (leb a b) (λ e. omega arith) (λ e. omega (arith, leb-false a b e))

-- of histograms of pictures of one sample
score-most : (hs : List (List (List ℕ))) (i : ℕ) →
    ((j k : ℕ) → j < length hs → k < length hs → Alike (at hs j) (at hs k)) → cut_score hs i ≤ 1000000
unfolding cut_score least_of_six
score-most hs i alike = go (leb 2 i) (ltb (i + 2) (length hs)) refl refl
  where
    s : ℕ
    s = least_of_six (at hs (i - 2)) (at hs (i - 1)) (at hs i) (at hs (i + 1)) (at hs (i + 2))

    go : (x y : Bool) → leb 2 i ≡ x → ltb (i + 2) (length hs) ≡ y → pick (x && y) s 0 ≤ 1000000
    go true true ex ey =
        let last : i + 2 < length hs = ltb-true (i + 2) (length hs) ey in
        let first : difference (at hs (i - 2)) (at hs i) ≤ 1000000 =
        difference-most (at hs (i - 2)) (at hs i) (alike (i - 2) i (omega arith) (omega arith)) in
        let a = difference (at hs (i - 2)) (at hs i) in
        let b = smaller (difference (at hs (i - 2)) (at hs (i + 1))) (difference (at hs (i - 2)) (at hs (i + 2))) in
        let c = smaller (difference (at hs (i - 1)) (at hs i))
        (smaller (difference (at hs (i - 1)) (at hs (i + 1))) (difference (at hs (i - 1)) (at hs (i + 2)))) in
        omega (arith, smaller-first (smaller a b) c, smaller-first a b)
    go true false ex ey = omega arith
    go false y ex ey = omega arith

-- ---- the pictures of one sample

pub alike : (o : Opening) (px py : List ℕ) → Bytes px → Bytes py → length px ≡ length py →
    Alike (histograms o px) (histograms o py)
unfolding histograms
alike o px py bx by e t = go (dec_le 9 t)
  where
    nine : (p : List ℕ) → length (histograms o p) ≡ 9
    nine p = length-table 9 0 (λ t. histogram (in_tile o t p))

    go : Dec (9 ≤ t) → total (get_or (histograms o px) t []) ≡ total (get_or (histograms o py) t [])
    go (yes l) =
        ap total (get_or-eq_default (histograms o px) [] {n = t} (omega (arith, nine px)))
        ∙ ap total (sym (get_or-eq_default (histograms o py) [] {n = t} (omega (arith, nine py))))
    go (no l) =
        let low : t < 9 = lt_of_not-le l in
        tile-total o px t bx low ∙ tile-same (columns o) (lines o) t px py e ∙ sym (tile-total o py t by low)

-- their reduced pixels are bytes, w × h of them
pub reduced-at : (o : Opening) (luma : List ℕ) (j : ℕ) → Bytes luma → j < length (reduced o luma) →
    (Bytes (get_or (reduced o luma) j [])) × (length (get_or (reduced o luma) j []) ≡ columns o * lines o)
unfolding reduced pictures
reduced-at o luma j h l =
    let ps = parts (picture_count o luma) (picture_size o) luma in
    let size : length (map (pixels o) ps) ≡ length ps = length-map ps (pixels o) in
    let here : get_or (map (pixels o) ps) j [] ≡ pixels o (get_or ps j []) =
    get_or-mapped (pixels o) ps j [] [] (omega arith) in
    rw here (
      pixels-small o (get_or ps j [])
          (all-at ps j (all-parts (picture_count o luma) (picture_size o) luma h) (omega arith)),
      pixels-length o (get_or ps j []),
    )
  where
    all-at : (ps : List (List ℕ)) (j : ℕ) → All Bytes ps → j < length ps → Bytes (get_or ps j [])
    all-at [] j empty l = absurd (omega arith)
    all-at (p ∷ ps) zero (and h hs) l = h
    all-at (p ∷ ps) (suc j) (and h hs) l = all-at ps j hs (omega arith)

-- every cut score of a sample
pub scores-most : (o : Opening) (luma : List ℕ) (i : ℕ) → Bytes luma →
    cut_score (map (histograms o) (reduced o luma)) i ≤ 1000000
scores-most o luma i h = score-most (map (histograms o) (reduced o luma)) i
    (λ j k lj lk. go j k (omega (arith, size)) (omega (arith, size)))
  where
    size : length (map (histograms o) (reduced o luma)) ≡ length (reduced o luma)
    size = length-map (reduced o luma) (histograms o)

    go : (j k : ℕ) → j < length (reduced o luma) → k < length (reduced o luma) →
        Alike (at (map (histograms o) (reduced o luma)) j) (at (map (histograms o) (reduced o luma)) k)
    go j k lj lk =
        let a = reduced-at o luma j h lj in
        let b = reduced-at o luma k h lk in
        rw (
          get_or-mapped (histograms o) (reduced o luma) j [] [] lj,
          get_or-mapped (histograms o) (reduced o luma) k [] [] lk,
        )
        (alike o (get_or (reduced o luma) j []) (get_or (reduced o luma) k []) a.0 b.0 (a.1 ∙ sym b.1))
