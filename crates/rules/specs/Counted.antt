-- Luma side: what demand 3 says of the histograms of every whole picture.
use Rattle.std.specs.Prelude.{ℕ, suc, ◌+◌, ◌*◌, ◌≤◌, ◌<◌, ◌≡◌, List, [], map, length, get_or, take, drop, eqb}
use Rattle.rules.specs.declared.Opening.{Opening}
use Rattle.rules.specs.Bytes.{pick, total, tally}
use Rattle.rules.specs.Refusals.{none}
use Rattle.rules.specs.Opening.{opening_fault, columns, lines, pixel_count}
use Rattle.rules.specs.Pictures.{picture_size}
use Rattle.rules.specs.Histograms.{tile_at, bin, histograms}

-- picture i is whole: the opening is not refused, i is one of 0 to 749, and its W × H bytes, from i × W × H on, are
-- among the joined bytes
pub record Whole (o : Opening) (luma : List ℕ) (i : ℕ) : Type 0 where
  pub opened : opening_fault o ≡ none
  pub few : i < 750
  pub there : i * picture_size o + picture_size o ≤ length luma

-- 1 if the pixel v at place i of a picture of w by h pixels is in bin b of tile t, otherwise 0
abbrev pub hits : ℕ → ℕ → ℕ → ℕ → ℕ → ℕ → ℕ
hits w h t b i v = pick (eqb (tile_at w h i) t) (pick (eqb (bin v) b) 1 0) 0

-- bin b of tile t over the pixels other than the one at place j
abbrev pub other_bin : Opening → ℕ → ℕ → ℕ → List ℕ → ℕ
other_bin o t b j px =
    tally (hits (columns o) (lines o) t b) 0 (take j px)
    + tally (hits (columns o) (lines o) t b) (suc j) (drop (suc j) px)

-- the pixel at place j adds one to one bin of one tile's histogram and nothing to any other
pub record Adds (o : Opening) (px : List ℕ) (j : ℕ) : Type 0 where
  pub the_tile : ℕ
  pub the_bin : ℕ
  pub tile_below : the_tile < 9
  pub bin_below : the_bin < 16
  pub own : get_or (get_or (histograms o px) the_tile []) the_bin 0 ≡ other_bin o the_tile the_bin j px + 1
  pub others : (t b : ℕ) → t < 9 → b < 16 → ((t ≡ the_tile) × (b ≡ the_bin) → ⊥) →
      get_or (get_or (histograms o px) t []) b 0 ≡ other_bin o t b j px

-- every pixel of a picture does, and so the bins of the nine histograms total w × h
pub record Counted (o : Opening) (px : List ℕ) : Type 0 where
  pub size : length px ≡ pixel_count o
  pub adds : (j : ℕ) → j < pixel_count o → Adds o px j
  pub all : total (map total (histograms o px)) ≡ pixel_count o
