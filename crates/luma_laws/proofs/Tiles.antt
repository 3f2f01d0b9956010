-- A bin by counting: how many places of a picture's pixels lie in tile t with a value in bin b. Of a picture's first
-- pixels it is the same count over fewer.
use Prim.Native.Nat.{ℕ, suc, ◌+◌, ◌*◌, ◌≤◌, ◌<◌}
use native.Mathlib.Omega.{arith}
use native.Mathlib.Nat.{add-zero, zero-add}
use mathlib.Core.Path.{◌≡◌, refl, sym, ap, ◌∙◌}
use mathlib.Core.Bool.{Bool, true, false}
use mathlib.Core.List.{List, [], ◌∷◌, ◌++◌}
use lib.ListN.{length, get_or}
use lib.Dec.{eqb}
use borrow.Author.Tests.{eq-eqb, eqb-true}
use Rattle.rules.specs.declared.Opening.{Opening}
use Rattle.rules.specs.Bytes.{pick, total, count, tally, table, All}
use Rattle.rules.specs.Opening.{columns, lines}
use Rattle.rules.specs.Counted.{hits}
use Rattle.rules.specs.Histograms.{tile_at, bin, in_tile_from, in_tile, in_bin, histogram, histograms}
use Rattle.luma_laws.specs.Tallies.{bin_tally}
use Rattle.luma_laws.proofs.Tables.{get_or-table, same-table}
use Rattle.luma_laws.proofs.Tally.{tally-append, tally-most, tally-places}
use Rattle.luma_laws.proofs.Histograms.{bin_small, tile-small, bins-total, in-tile}

-- one pixel more
pub bin-more : (w h t b v : ℕ) (p : List ℕ) →
    bin_tally w h t b (p ++ v ∷ []) ≡ bin_tally w h t b p + hits w h t b (length p) v
unfolding tally
bin-more w h t b v p =
    let e : 0 + length p ≡ length p = omega arith in
    omega (arith, rw e at (tally-append (hits w h t b) 0 p (v ∷ [])))

-- never more than there are pixels
pub bin-most : (w h t b : ℕ) (p : List ℕ) → bin_tally w h t b p ≤ length p
bin-most w h t b p = omega
    (arith, tally-most (hits w h t b) 1 0 p (λ i v. go (eqb (tile_at w h i) t) (eqb (bin v) b)))
  where
    go : (x y : Bool) → pick x (pick y 1 0) 0 ≤ 1
    go true true = omega arith
    go true false = omega arith
    go false y = omega arith

-- ---- each pixel is in exactly one bin of exactly one tile's histogram, whatever the sizes

-- of the pixel v at place i: the tile and the bin that it is in, and that it is in no other
pub record Once (w h i v : ℕ) : Type 0 where
  pub the_tile : ℕ
  pub the_bin : ℕ
  pub tile_below : the_tile < 9
  pub bin_below : the_bin < 16
  pub own : hits w h the_tile the_bin i v ≡ 1
  pub only : (t b : ℕ) → hits w h t b i v ≡ 1 → (t ≡ the_tile) × (b ≡ the_bin)
  pub others : (t b : ℕ) → ((t ≡ the_tile) × (b ≡ the_bin) → ⊥) → hits w h t b i v ≡ 0

pub once : (w h i v : ℕ) → 0 < w → i < w * h → v < 256 → Once w h i v
once w h i v some place byte =
    record {
      the_tile = tile_at w h i;
      the_bin = bin v;
      tile_below = tile-small w h i some place;
      bin_below = bin_small v byte;
      own = rw (eq-eqb (tile_at w h i) (tile_at w h i) refl, eq-eqb (bin v) (bin v) refl);
      only = λ t b e. is t b (eqb (tile_at w h i) t) (eqb (bin v) b) refl refl e;
      others = λ t b e. isn't t b (eqb (tile_at w h i) t) (eqb (bin v) b) refl refl e;
    }
  where
    is : (t b : ℕ) (x y : Bool) → eqb (tile_at w h i) t ≡ x → eqb (bin v) b ≡ y →
        ◌≡◌ {A = ℕ} (pick x (pick y 1 0) 0) 1 → (t ≡ tile_at w h i) × (b ≡ bin v)
    is t b true true ex ey e = (sym (eqb-true (tile_at w h i) t ex), sym (eqb-true (bin v) b ey))
    is t b true false ex ey e = absurd (omega arith)
    is t b false y ex ey e = absurd (omega arith)

    isn't : (t b : ℕ) (x y : Bool) → eqb (tile_at w h i) t ≡ x → eqb (bin v) b ≡ y →
        ((t ≡ tile_at w h i) × (b ≡ bin v) → ⊥) → ◌≡◌ {A = ℕ} (pick x (pick y 1 0) 0) 0
    isn't t b true true ex ey e = absurd (e (sym (eqb-true (tile_at w h i) t ex), sym (eqb-true (bin v) b ey)))
    isn't t b true false ex ey e = refl
    isn't t b false y ex ey e = refl

-- so a pixel more, at the place behind the first pixels p, raises that bin by one and leaves every other
pub record Raised (w h v : ℕ) (p : List ℕ) : Type 0 where
  pub the_tile : ℕ
  pub the_bin : ℕ
  pub tile_below : the_tile < 9
  pub bin_below : the_bin < 16
  pub own : bin_tally w h the_tile the_bin (p ++ v ∷ []) ≡ bin_tally w h the_tile the_bin p + 1
  pub others : (t b : ℕ) → ((t ≡ the_tile) × (b ≡ the_bin) → ⊥) →
      bin_tally w h t b (p ++ v ∷ []) ≡ bin_tally w h t b p

pub raised : (w h v : ℕ) (p : List ℕ) → 0 < w → length p < w * h → v < 256 → Raised w h v p
raised w h v p some place byte =
    let o = once w h (length p) v some place byte in
    record {
      the_tile = o.the_tile;
      the_bin = o.the_bin;
      tile_below = o.tile_below;
      bin_below = o.bin_below;
      own = bin-more w h o.the_tile o.the_bin v p
          ∙ ap (λ (z : ℕ). bin_tally w h o.the_tile o.the_bin p + z) o.own;
      others = λ t b e. bin-more w h t b v p ∙ ap (λ (z : ℕ). bin_tally w h t b p + z) (o.others t b e)
          ∙ add-zero (bin_tally w h t b p);
    }

-- ---- the rule's histograms are these counts

in-bin : (w h t b p : ℕ) (px : List ℕ) →
    count (λ v. eqb (bin v) b) (in_tile_from w h t p px) ≡ tally (hits w h t b) p px
unfolding count in_tile_from tally
in-bin w h t b p [] = refl
in-bin w h t b p (v ∷ px) = go (eqb (tile_at w h p) t) (in-bin w h t b (suc p) px)
  where
    go : (x : Bool) → count (λ v. eqb (bin v) b) (in_tile_from w h t (suc p) px) ≡ tally (hits w h t b) (suc p) px →
        count (λ v. eqb (bin v) b) (pick x (v ∷ in_tile_from w h t (suc p) px) (in_tile_from w h t (suc p) px))
        ≡ pick x (pick (eqb (bin v) b) 1 0) 0 + tally (hits w h t b) (suc p) px
    go true e = omega arith
    go false e = omega arith

-- bin b of tile t of a picture's histograms
pub histograms-at : (o : Opening) (px : List ℕ) (t b : ℕ) → t < 9 → b < 16 →
    get_or (get_or (histograms o px) t []) b 0 ≡ bin_tally (columns o) (lines o) t b px
unfolding histograms histogram in_bin in_tile
histograms-at o px t b ht hb =
    ap (λ (l : List ℕ). get_or l b 0) (get_or-table 9 0 (λ u. histogram (in_tile o u px)) t [] ht)
    ∙ get_or-table 16 0 (in_bin (in_tile o (0 + t) px)) b 0 hb
    ∙ ap (λ (u : ℕ). in_bin (in_tile o u px) (0 + b)) (zero-add t)
    ∙ ap (λ (c : ℕ). in_bin (in_tile o t px) c) (zero-add b)
    ∙ in-bin (columns o) (lines o) t b 0 px

-- all of them
pub histograms-are : (o : Opening) (px : List ℕ) →
    histograms o px ≡ table 9 0 (λ t. table 16 0 (λ b. bin_tally (columns o) (lines o) t b px))
unfolding histograms histogram in_bin in_tile
histograms-are o px =
    same-table 9 0 (λ t. histogram (in_tile o t px)) (λ t. table 16 0 (λ b. bin_tally (columns o) (lines o) t b px))
    (λ t ht. same-table 16 0 (in_bin (in_tile o t px)) (λ b. bin_tally (columns o) (lines o) t b px)
    (λ b hb. in-bin (columns o) (lines o) t b 0 px))

-- ---- a tile's pixels

-- how many places of a picture's first pixels lie in tile t; their values don't matter
abbrev pub tile_tally : ℕ → ℕ → ℕ → List ℕ → ℕ
tile_tally w h t p = tally (λ i v. pick (eqb (tile_at w h i) t) 1 0) 0 p

tile-length : (w h t p : ℕ) (px : List ℕ) →
    length (in_tile_from w h t p px) ≡ tally (λ i v. pick (eqb (tile_at w h i) t) 1 0) p px
unfolding in_tile_from tally
tile-length w h t p [] = refl
tile-length w h t p (v ∷ px) = go (eqb (tile_at w h p) t) (tile-length w h t (suc p) px)
  where
    go : (x : Bool) →
        length (in_tile_from w h t (suc p) px) ≡ tally (λ i v. pick (eqb (tile_at w h i) t) 1 0) (suc p) px →
        length (pick x (v ∷ in_tile_from w h t (suc p) px) (in_tile_from w h t (suc p) px))
        ≡ pick x 1 0 + tally (λ i v. pick (eqb (tile_at w h i) t) 1 0) (suc p) px
    go true e = omega arith
    go false e = omega arith

-- n of tile t: its bins total its pixels
pub tile-total : (o : Opening) (px : List ℕ) (t : ℕ) → All (λ (v : ℕ). v < 256) px → t < 9 →
    total (get_or (histograms o px) t []) ≡ tile_tally (columns o) (lines o) t px
unfolding histograms in_tile
tile-total o px t small ht =
    ap total (get_or-table 9 0 (λ u. histogram (in_tile o u px)) t [] ht)
    ∙ ap (λ (u : ℕ). total (histogram (in_tile o u px))) (zero-add t)
    ∙ bins-total (in_tile o t px) (in-tile (columns o) (lines o) t 0 px small)
    ∙ tile-length (columns o) (lines o) t 0 px

-- the same in every picture of a sample
pub tile-same : (w h t : ℕ) (p q : List ℕ) → length p ≡ length q → tile_tally w h t p ≡ tile_tally w h t q
tile-same w h t p q e = tally-places (λ i. pick (eqb (tile_at w h i) t) 1 0) 0 p q e
