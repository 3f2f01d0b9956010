-- The histograms of a reduced picture, by counting. The picture is the list of its pixels, w in each of h rows. Five
-- pictures' bins, 144 each, lie in one ring.
use Rattle.std.specs.Prelude.{◌≡◌, ℕ, ◌+◌, ◌*◌, ◌%◌, ◌^◌, ◌<◌, ◌≤◌, List, [], ◌++◌, length, ◌==◌, slice_index}
use Rattle.rules.specs.Bytes.{pick}
use Rattle.rules.specs.Histograms.{in_bin}
use Rattle.rules.specs.Columns.{Boundary}
use Rattle.luma_laws.specs.Tallies.{bin_tally}
use Rattle.luma_sums.specs.Sums.{run}
use Rattle.luma_tiles.specs.declared.Tiles.{Tiles}

-- The 144 counts from `base` on stand for the first pixels p of a picture: bin b of tile t is
-- count 16 t + b, modulo 2 ^ 32
pub record Counts (w h base : ℕ) (p counts : List ℕ) : Type 0 where
  pub size : length counts ≡ 720
  pub each : (t b : ℕ) → t < 9 → b < 16 →
      slice_index counts (base + (16 * t + b)) % 2 ^ 32 ≡ bin_tally w h t b p % 2 ^ 32

-- nothing but the 144 counts from `base` on changed
pub record Kept (base : ℕ) (before after : List ℕ) : Type 0 where
  pub size : length after ≡ length before
  pub low : (i : ℕ) → i < base → slice_index after i ≡ slice_index before i
  pub high : (i : ℕ) → base + 144 ≤ i → slice_index after i ≡ slice_index before i

-- the 144 counts from `base` on stand for no pixel
pub record Cleared (base : ℕ) (before after : List ℕ) : Type 0 where
  pub kept : Kept base before after
  pub none : length before ≡ 720 → (w h : ℕ) → Counts w h base [] after

-- what the pixels vs, which all lie in tile u, give to bin b of tile t
abbrev pub in_tile : ℕ → List ℕ → ℕ → ℕ → ℕ
in_tile u vs t b = pick (u == t) (in_bin vs b) 0

-- bin b of tile t grew by f t b, modulo 2 ^ 32
pub record Grown (base : ℕ) (f : ℕ → ℕ → ℕ) (before after : List ℕ) : Type 0 where
  pub kept : Kept base before after
  pub each : length before ≡ 720 → (t b : ℕ) → t < 9 → b < 16 →
      slice_index after (base + (16 * t + b)) % 2 ^ 32 ≡ (slice_index before (base + (16 * t + b)) + f t b) % 2 ^ 32

-- by the pixels xs of tile t and those of the two tiles after it
abbrev pub Three : ℕ → ℕ → List ℕ → List ℕ → List ℕ → List ℕ → List ℕ → Type 0
Three base t xs ys zs =
    Grown base (λ u b. in_tile t xs u b + in_tile (t + 1) ys u b + in_tile (t + 2) zs u b)

-- a row of pixels more
pub record CountedRow (w h r base : ℕ) (pixels before after : List ℕ) : Type 0 where
  pub kept : Kept base before after
  pub more : (p : List ℕ) → length p ≡ r * w → Counts w h base p before →
      Counts w h base (p ++ run pixels (r * w) w) after

-- what `count_row` asks
pub record Row (tiles : Tiles) (r base : ℕ) (pixels : List ℕ) : Type 0 where
  pub boundary : Boundary 1 tiles.columns tiles.second
  pub boundary_2 : Boundary 2 tiles.columns tiles.third
  pub wide : 3 ≤ tiles.columns
  pub few : tiles.columns ≤ 240
  pub inside : r < tiles.lines
  pub low : tiles.lines ≤ 64
  pub slot : base + 144 ≤ 720
  pub there : r * tiles.columns + tiles.columns ≤ length pixels

-- what `count_columns` asks
pub record Columns (base t : ℕ) (xs ys zs : List ℕ) : Type 0 where
  pub slot : base + 144 ≤ 720
  pub tiles : t + 3 ≤ 9
  pub second : length ys ≡ length xs
  pub third : length zs ≡ length xs
