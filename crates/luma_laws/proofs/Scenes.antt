-- Scenes: the starts rise from 0 and lie apart, the last has two pictures behind it, and the scenes join without gap
-- and total the pictures.
use Prim.Native.Nat.{ℕ, zero, suc, ◌+◌, ◌-◌, ◌*◌, ◌/◌, ◌≤◌, ◌<◌}
use native.Mathlib.Omega.{arith}
use native.Mathlib.Nat.{mul-le-mul, mul-suc, zero-add}
use native.Mathlib.Decide.{dec_le, dec_lt}
use mathlib.Core.Path.{◌≡◌, refl, ◌∙◌}
use mathlib.Core.List.{List, [], ◌∷◌, map}
use mathlib.Core.Bool.{Bool, true, false, ◌&&◌, and-false}
use lib.ListN.{length, get_or, length-map, get_or-eq_default}
use lib.Dec.{leb, ltb}
use borrow.Author.Tests.{ltb-true, leb-true, le-leb, lt-leb, le-ltb}
use Rattle.rules.specs.declared.Opening.{Opening}
use Rattle.rules.specs.declared.SceneRow.{SceneRow}
use Rattle.rules.specs.Bytes.{pick, smaller, parts}
use Rattle.rules.specs.Refusals.{Fault, none, fault}
use Rattle.rules.specs.Opening.{opening_fault}
use Rattle.rules.specs.Pictures.{picture_size, if_opened, picture_count, pictures, pixels}
use Rattle.rules.specs.Histograms.{histograms}
use Rattle.rules.specs.Cuts.{cut_score, cut_scores}
use Rattle.rules.specs.Scenes.{starts_scene, is_start, starts_from, starts, scene_of, scenes_at, scenes_of}
use Rattle.rules.specs.Changes.{repeats, changes}
use Rattle.rules.specs.Editions.{rounds_to_nearest}
use Rattle.rules.specs.Seal.{reduced, scenes_in, scenes}
use Rattle.rules.proofs.Laws.Lists.{both, length-table}
use Rattle.luma_laws.proofs.Tables.{get_or-table, parts-length}

-- ---- starts

-- starts behind the last start b: each at least m pictures after the one before it, and below `end`
pub data Apart (m end : ℕ) : ℕ → List ℕ → Type 0 where
  last : {b : ℕ} → Apart m end b []
  next : {b i : ℕ} {is : List ℕ} → b + m ≤ i → i < end → Apart m end i is → Apart m end b (i ∷ is)

-- what a start shows: long enough, and a cut
pub start-long : (d : ℕ) (ss : List ℕ) (b i : ℕ) → is_start d ss b i ≡ true → 600000 ≤ (i - b) * d
unfolding is_start starts_scene
start-long d ss b i e = leb-true 600000 ((i - b) * d) (both (leb 600000 ((i - b) * d)) _ (both _ _ e).0).0

pub start-cut : (d : ℕ) (ss : List ℕ) (b i : ℕ) → is_start d ss b i ≡ true → 1000 < get_or ss i 0
unfolding is_start starts_scene
start-cut d ss b i e = ltb-true 1000 (get_or ss i 0) (both (leb 600000 ((i - b) * d)) _ (both _ _ e).0).1

module _ (d : ℕ) (ss : List ℕ) (m end : ℕ) (long : (n : ℕ) → 600000 ≤ n * d → m ≤ n)
    (cut : (i : ℕ) → 1000 < get_or ss i 0 → i < end) where
  pub starts_apart : (n b i : ℕ) → b ≤ i → Apart m end b (starts_from d ss n b i)
  unfolding starts_from
  starts_apart zero b i h = last
  starts_apart (suc n) b i h =
      go (is_start d ss b i) refl (starts_apart n i (suc i) (omega arith)) (starts_apart n b (suc i) (omega arith))
    where
      go : (t : Bool) → is_start d ss b i ≡ t → Apart m end i (starts_from d ss n i (suc i)) →
          Apart m end b (starts_from d ss n b (suc i)) →
          Apart m end b (pick t (i ∷ starts_from d ss n i (suc i)) (starts_from d ss n b (suc i)))
      go true e f g =
          let a = long (i - b) (start-long d ss b i e) in
          next {b = b} {i = i} (omega arith) (cut i (start-cut d ss b i e)) f
      go false e f g = g

-- a start is a picture: there is no cut score behind the last picture
pub below_length : (ss : List ℕ) (i : ℕ) → 1000 < get_or ss i 0 → i < length ss
below_length ss i h = elim (dec_le (length ss) i) [
  | yes g ↦ let e = get_or-eq_default ss 0 g in absurd (omega arith)
  | no g ↦ omega arith
]

-- with d at most 200,000 a scene has at least three pictures
pub three : (d : ℕ) → d ≤ 200000 → (n : ℕ) → 600000 ≤ n * d → 3 ≤ n
three d h n g = elim (dec_le 3 n) [
  | yes k ↦ k
  | no k ↦
      let a : n * d ≤ 2 * 200000 = mul-le-mul {n₁ = n} {m₁ = d} {n₂ = 2} {m₂ = 200000} (omega arith) h in
      absurd (omega arith)
]

pub apart-count : {m end b : ℕ} {is : List ℕ} → Apart m end b is → m * length is ≤ end - suc b
apart-count {m} last = omega arith
apart-count {m} (next {i} {is} h k r) = let a = apart-count r in rw (mul-suc m (length is)) (omega arith)

-- ---- scenes

-- rows that hold at least one picture each, start at picture `from`, join without gap and end before picture n
abbrev pub Joins : ℕ → ℕ → List SceneRow → Type 0
Joins n from [] = from ≡ n
Joins n from (r ∷ rs) = (r.first ≡ from) × (1 ≤ r.pictures) × Joins n (from + r.pictures) rs

module _ (ss : List ℕ) (rs : List Bool) (qs : List ℕ) where
  scenes-follow : {m b : ℕ} {is : List ℕ} → 1 ≤ m → b < length ss → Apart m (length ss) b is →
      Joins (length ss) b (scenes_at ss rs qs (b ∷ is))
  unfolding scenes_at scene_of
  scenes-follow {m} {b} h k last = (refl, omega arith, omega arith)
  scenes-follow {m} {b} h k (next {i} {is} g e r) =
      let back : b + (i - b) ≡ i = omega arith in
      (refl, omega arith, rw back (scenes-follow h e r))

  pub scenes-length : (is : List ℕ) → length (scenes_at ss rs qs is) ≡ length is
  unfolding scenes_at
  scenes-length [] = refl
  scenes-length (i ∷ []) = refl
  scenes-length (i ∷ j ∷ is) = let h = scenes-length (j ∷ is) in omega arith

-- picture 0 is a start, and the others follow it
pub starts_first : (d : ℕ) (ss : List ℕ) → 1 ≤ length ss → starts d ss ≡ 0 ∷ starts_from d ss (length ss - 1) 0 1
unfolding starts
starts_first d [] h = absurd (omega arith)
starts_first d (s ∷ ss) h = let e : suc (length ss) - 1 ≡ length ss = omega arith in rw e

-- the scenes of pictures start at 0, join without gap and total the pictures
scenes-join : (d : ℕ) (ss : List ℕ) (rs : List Bool) (qs : List ℕ) → 1 ≤ length ss →
    Joins (length ss) 0 (scenes_of d ss rs qs)
unfolding scenes_of starts
scenes-join d [] rs qs h = absurd (omega arith)
scenes-join d (s ∷ ss) rs qs h =
    scenes-follow (s ∷ ss) rs qs {m = 1} (omega arith) (omega arith)
    (starts_apart d (s ∷ ss) 1 (suc (length ss)) some (below_length (s ∷ ss)) (length ss) 0 1 (omega arith))
  where
    some : (n : ℕ) → 600000 ≤ n * d → 1 ≤ n
    some zero g = absurd (omega arith)
    some (suc n) g = omega arith

-- ---- the last start has two pictures behind it

pub score-at : (hs : List (List (List ℕ))) (i : ℕ) → i < length hs → get_or (cut_scores hs) i 0 ≡ cut_score hs i
unfolding cut_scores
score-at hs i h = get_or-table (length hs) 0 (cut_score hs) i 0 h ∙ rw (zero-add i)

pub scores-length : (hs : List (List (List ℕ))) → length (cut_scores hs) ≡ length hs
unfolding cut_scores
scores-length hs = length-table (length hs) 0 (cut_score hs)

-- a score that is not 0 has two pictures before it and two behind it
score-inside : (hs : List (List (List ℕ))) (i : ℕ) → 0 < cut_score hs i → (2 ≤ i) × (i + 2 < length hs)
unfolding cut_score
score-inside hs i h = go (dec_le 2 i) (dec_lt (i + 2) (length hs))
  where
    missing : leb 2 i && ltb (i + 2) (length hs) ≡ false → cut_score hs i ≡ 0
    missing e = rw e

    go : Dec (2 ≤ i) → Dec (i + 2 < length hs) → (2 ≤ i) × (i + 2 < length hs)
    go (yes f) (yes g) = (f, g)
    go (yes f) (no g) =
        let z = missing (rw (le-ltb (i + 2) (length hs) (omega arith)) (and-false (leb 2 i))) in
        absurd (omega arith)
    go (no f) k = let z = missing (rw (lt-leb 2 i (omega arith))) in absurd (omega arith)

pub cut_inside : (hs : List (List (List ℕ))) (i : ℕ) → 1000 < get_or (cut_scores hs) i 0 → i < length hs - 2
cut_inside hs i h =
    let l = scores-length hs in
    let k = below_length (cut_scores hs) i h in
    let e = score-at hs i (omega arith) in
    let p = score-inside hs i (omega arith) in
    omega arith

-- ---- of a sample

pub pictures-most : (o : Opening) (luma : List ℕ) → picture_count o luma ≤ 750
unfolding picture_count
pictures-most o luma = go (opening_fault o) (dec_le 750 (length luma / picture_size o))
  where
    go : (f : Fault) → Dec (750 ≤ length luma / picture_size o) →
        if_opened f (smaller 750 (length luma / picture_size o)) ≤ 750
    go none (yes h) = rw (le-leb 750 (length luma / picture_size o) h) (omega arith)
    go none (no h) = rw (lt-leb 750 (length luma / picture_size o) (omega arith)) (omega arith)
    go (fault k p) d = omega arith

pub reduced-length : (o : Opening) (luma : List ℕ) → length (reduced o luma) ≡ picture_count o luma
unfolding reduced pictures
reduced-length o luma =
    length-map (parts (picture_count o luma) (picture_size o) luma) (pixels o)
    ∙ parts-length (picture_count o luma) (picture_size o) luma

-- N pictures have N cut scores
pub sample-scores : (o : Opening) (luma : List ℕ) →
    length (cut_scores (map (histograms o) (reduced o luma))) ≡ picture_count o luma
sample-scores o luma =
    scores-length (map (histograms o) (reduced o luma)) ∙ length-map (reduced o luma) (histograms o)
    ∙ reduced-length o luma

pub sample-joins : (o : Opening) (luma : List ℕ) → 1 ≤ picture_count o luma →
    Joins (picture_count o luma) 0 (scenes o luma)
unfolding scenes scenes_in
sample-joins o luma h =
    let pxs = reduced o luma in
    let qs = changes (rounds_to_nearest o.edition) pxs in
    let e = sample-scores o luma in
    rw e at (scenes-join o.time (cut_scores (map (histograms o) pxs)) (repeats pxs) qs (omega arith))
