-- Plain pictures, of one value: their reduced pixels have it too, so that each tile's pixels lie in one bin.
-- Black and white differ by 1,000,000.
use Prim.Native.Nat.{ℕ, zero, suc, ◌+◌, ◌*◌, ◌≤◌, ◌<◌}
use native.Mathlib.Omega.{arith}
use native.Mathlib.Nat.{mul_comm, mul_assoc, mul-pos, mul-div_cancel, mul-div_cancel_left, zero-div}
use mathlib.Core.Path.{◌≡◌, refl, ap, ◌∙◌}
use mathlib.Core.Bool.{Bool, true, false}
use mathlib.Core.List.{List, [], ◌∷◌, map}
use lib.ListN.{take, drop, replicate, length-replicate}
use lib.Dec.{eqb}
use Rattle.rules.specs.declared.Opening.{Opening}
use Rattle.rules.specs.Bytes.{pick, total, tally, table}
use Rattle.rules.specs.Opening.{side, columns, lines}
use Rattle.rules.specs.Pictures.{picture_size, rows, band, block_sum, pixel_in, pixel_line, pixels}
use Rattle.rules.specs.Histograms.{tile_at, bin, in_tile_from, in_tile, in_bin, histogram, histograms}
use Rattle.rules.specs.Cuts.{bins_apart, per_million, tile_difference, tile_differences, insert, sorted, fifth}
use Rattle.rules.specs.Cuts.{difference}
use Rattle.luma_laws.proofs.Blocks.{side-some, area-side, line-inside, column-inside}
use Rattle.luma_laws.proofs.Tables.{same-table}
use Rattle.luma_laws.proofs.Thirds.{tile-some}
use Rattle.luma_laws.proofs.Sizes.{Good, sizes}
use Rattle.luma_busiest.proofs.Laws.Flat.{flat-part, flat_rows, flat-table, flat-lines, flat_map}
use Rattle.luma_busiest.proofs.Laws.Flat.{flat-total, flat-count}

-- ---- reduced pixels

-- the sum of a block's n rows of n bytes, from byte j of a row on
block-sum : (n j w v : ℕ) → j + n ≤ w →
    total (map (λ (row : List ℕ). total (take n (drop j row))) (replicate n (replicate w v))) ≡ n * n * v
block-sum n j w v h =
    let row : total (take n (drop j (replicate w v))) ≡ n * v = rw (flat-part j n w v h) (flat-total n v) in
    let rows = flat_map (λ (s : List ℕ). total (take n (drop j s))) n (replicate w v) in
    rw (rows, row, mul_assoc n n v) (flat-total n (n * v))

module _ (o : Opening) (v : ℕ) where
  plain-pixel : (r c : ℕ) → r < lines o → c < columns o → pixel_in o (band o (replicate (picture_size o) v) r) c ≡ v
  unfolding picture_size band rows block_sum pixel_in
  plain-pixel r c hr hc =
      let n = side o in
      let w = o.width in
      let h = o.height in
      let some = side-some o in
      let own = flat-part (r * n) n h (replicate w v) (line-inside o r hr) in
      let sum = block-sum n (c * n) w v (column-inside o c hc) in
      rw (mul_comm w h, flat_rows h w v, own, sum, area-side o) (mul-div_cancel_left v (mul-pos some some))

  pub plain-pixels : pixels o (replicate (picture_size o) v) ≡ replicate (lines o * columns o) v
  unfolding pixels pixel_line
  plain-pixels =
      let rs : ℕ → List (List ℕ) = λ r. band o (replicate (picture_size o) v) r in
      flat-lines (lines o) 0 (columns o) (λ r. pixel_line o (rs r)) v
      (λ r hr. flat-table (columns o) 0 (pixel_in o (rs r)) v (λ c hc. plain-pixel r c (omega arith) (omega arith)))

-- ---- tiles and bins

-- the pixels of tile t among n pixels from place p on, whatever they are
tile_size : ℕ → ℕ → ℕ → ℕ → ℕ → ℕ
tile_size w h t p n = tally {A = ℕ} (λ i v. pick (eqb (tile_at w h i) t) 1 0) p (replicate n 0)

plain-tile : (w h t p n v : ℕ) → in_tile_from w h t p (replicate n v) ≡ replicate (tile_size w h t p n) v
unfolding in_tile_from tally tile_size
plain-tile w h t p zero v = refl
plain-tile w h t p (suc n) v =
    let more = in_tile_from w h t (suc p) (replicate n v) in
    go (eqb (tile_at w h p) t) more (tile_size w h t (suc p) n) (plain-tile w h t (suc p) n v)
  where
    go : (b : Bool) (more : List ℕ) (k : ℕ) → more ≡ replicate k v →
        pick b (v ∷ more) more ≡ replicate (pick b 1 0 + k) v
    go true more k e = let size : 1 + k ≡ suc k = omega arith in rw (size, e)
    go false more k e = let size : 0 + k ≡ k = omega arith in rw (size, e)

plain-bins : (n v : ℕ) → histogram (replicate n v) ≡ table 16 0 (λ b. pick (eqb (bin v) b) n 0)
unfolding histogram in_bin
plain-bins n v =
    same-table 16 0 (in_bin (replicate n v)) (λ b. pick (eqb (bin v) b) n 0)
    (λ b h. flat-count (λ x. eqb (bin x) b) n v (eqb (bin v) b) refl)

-- ---- the difference of two tiles

bins-same : (xs : List ℕ) → bins_apart xs xs ≡ 0
unfolding bins_apart
bins-same [] = refl
bins-same (x ∷ xs) = omega (arith, bins-same xs)

tile-same : (xs : List ℕ) → tile_difference xs xs ≡ 0
unfolding tile_difference per_million
tile-same xs = rw (bins-same xs) (zero-div (2 * total xs))

tile-apart : (xs ys : List ℕ) → 0 < total xs → bins_apart xs ys ≡ 2 * total xs → tile_difference xs ys ≡ 1000000
unfolding tile_difference per_million
tile-apart xs ys some e =
    let two : 0 < 2 * total xs = omega arith in
    rw e (mul-div_cancel 1000000 two)

-- n pixels of each
abbrev TilesApart : ℕ → ℕ → Type 0
TilesApart a b = (n : ℕ) → 0 < n → tile_difference (histogram (replicate n a)) (histogram (replicate n b)) ≡ 1000000

black-white : TilesApart 0 255
unfolding table bin total bins_apart
black-white n h = rw (plain-bins n 0, plain-bins n 255) (tile-apart _ _ (omega arith) (omega arith))

white-black : TilesApart 255 0
unfolding table bin total bins_apart
white-black n h = rw (plain-bins n 0, plain-bins n 255) (tile-apart _ _ (omega arith) (omega arith))

-- ---- of two pictures

tables-apart : (n from : ℕ) (f g : ℕ → List ℕ) →
    tile_differences (table n from f) (table n from g) ≡ table n from (λ t. tile_difference (f t) (g t))
unfolding tile_differences table
tables-apart zero from f g = refl
tables-apart (suc n) from f g =
    ap (λ (ds : List ℕ). tile_difference (f from) (g from) ∷ ds) (tables-apart n (suc from) f g)

-- nine tiles that all differ by d
nine : (d : ℕ) (f g : ℕ → List ℕ) → ((t : ℕ) → t < 9 → tile_difference (f t) (g t) ≡ d) →
    difference (table 9 0 f) (table 9 0 g) ≡ fifth (replicate 9 d)
unfolding difference
nine d f g e =
    ap fifth
    (tables-apart 9 0 f g ∙ flat-table 9 0 (λ t. tile_difference (f t) (g t)) d (λ t h. e t (omega arith)))

-- the histograms of a picture whose bytes are all v
unfoldable pub plain : Opening → ℕ → List (List ℕ)
plain o v = histograms o (replicate (lines o * columns o) v)

module _ (o : Opening) (g : Good o) where
  -- the pixels of tile t; no tile is empty
  size : ℕ → ℕ
  size t = tile_size (columns o) (lines o) t 0 (lines o * columns o)

  size-some : (t : ℕ) → t < 9 → 0 < size t
  unfolding size tile_size
  size-some t h =
      let s = sizes o g in
      let p : List ℕ = replicate (lines o * columns o) 0 in
      tile-some (columns o) (lines o) t p (omega (arith, s.columns_low)) (omega (arith, s.lines_low)) h
      (length-replicate (lines o * columns o) 0)

  plain-are : (v : ℕ) → plain o v ≡ table 9 0 (λ t. histogram (replicate (size t) v))
  unfolding plain histograms in_tile size
  plain-are v =
      let n = lines o * columns o in
      same-table 9 0 (λ t. histogram (in_tile o t (replicate n v))) (λ t. histogram (replicate (size t) v))
      (λ t h. ap histogram (plain-tile (columns o) (lines o) t 0 n v))

  pub plain-same : (v : ℕ) → difference (plain o v) (plain o v) ≡ 0
  unfolding fifth sorted insert
  plain-same v =
      let f : ℕ → List ℕ = λ t. histogram (replicate (size t) v) in
      rw (plain-are v) (nine 0 f f (λ t h. tile-same (f t)))

  plain-apart : (a b : ℕ) → TilesApart a b → difference (plain o a) (plain o b) ≡ 1000000
  unfolding fifth sorted insert
  plain-apart a b e =
      let f : ℕ → ℕ → List ℕ = λ v t. histogram (replicate (size t) v) in
      rw (plain-are a, plain-are b) (nine 1000000 (f a) (f b) (λ t h. e (size t) (size-some t h)))

  pub black-to-white : difference (plain o 0) (plain o 255) ≡ 1000000
  black-to-white = plain-apart 0 255 black-white

  pub white-to-black : difference (plain o 255) (plain o 0) ≡ 1000000
  white-to-black = plain-apart 255 0 white-black
