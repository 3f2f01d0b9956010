-- Each scene row of a sample is sound.
use Prim.Native.Nat.{ℕ, zero, suc, ◌+◌, ◌-◌, ◌*◌, ◌≤◌, ◌<◌}
use native.Mathlib.Omega.{arith}
use native.Mathlib.Nat.{add-zero, mul-le-mul_left, mul-le-mul_right}
use mathlib.Core.Path.{◌≡◌, refl, sym, ap, ◌∙◌}
use mathlib.Core.List.{List, [], ◌∷◌, map}
use mathlib.Core.Bool.{Bool, false, not}
use lib.ListN.{length, get_or, drop, length-take, length-drop}
use lib.Seq.{get_or-take, get_or-drop}
use Rattle.rules.specs.declared.Opening.{Opening}
use Rattle.rules.specs.declared.SceneRow.{SceneRow}
use Rattle.rules.specs.Bytes.{total, greatest_of, count, All, and, empty, Bytes}
use Rattle.rules.specs.Refusals.{none}
use Rattle.rules.specs.Editions.{rounds_to_nearest}
use Rattle.rules.specs.Opening.{opening_fault, pixel_count}
use Rattle.rules.specs.Pictures.{picture_count}
use Rattle.rules.specs.Histograms.{histograms}
use Rattle.rules.specs.Cuts.{cut_scores}
use Rattle.rules.specs.Changes.{repeats, changes}
use Rattle.rules.specs.Scenes.{span, is_true, starts_from, scene_of, scenes_at, scenes_of}
use Rattle.rules.specs.Seal.{reduced, scenes_in, scenes}
use Rattle.rules.specs.Busiest.{least_between}
use Rattle.rules.proofs.Laws.Lists.{count-few, all_drop, all_take, larger-max}
use Rattle.luma_laws.proofs.Past.{length-repeats}
use Rattle.luma_laws.proofs.Differences.{reduced-at}
use Rattle.luma_laws.proofs.Ranges.{AtMost, sample-scored, sample-changed}
use Rattle.luma_laws.proofs.Scenes.{Apart, last, next, starts_apart, below_length, starts_first, sample-scores}
use Rattle.luma_laws.proofs.Scenes.{reduced-length, scores-length, cut_inside}
use Rattle.luma_laws.proofs.Spans.{peak-step, peak-most, repeated-step, longest-most, both}
use Rattle.luma_laws.proofs.Least.{between_is}
use Rattle.luma_laws.proofs.Sizes.{good, sizes}
use Rattle.record_laws.proofs.Record.{Each, each_at}
use Rattle.record_verify.specs.Marks.{in_first, changing}
use Rattle.sealed_facts.specs.Facts.{SoundScene, LaterScene}
use Rattle.sealed_facts.proofs.Still.{Still, still-take, still-drop, still-total, first-total, runs-first}
use Rattle.sealed_facts.proofs.Still.{changes-still, first-change}
use Rattle.sealed_facts.proofs.Starts.{scores-still, first-score, cut-fresh, first-fresh, starts-cut}
use Rattle.sealed_facts.proofs.Units.{in-later}

-- the greatest is at least each, and at most what all are at most
pub highest : (most : ℕ) {xs : List ℕ} → All (AtMost most) xs → greatest_of xs ≤ most
unfolding greatest_of
highest most empty = omega arith
highest most (and {x} {xs} h hs) = let g = highest most hs in rw (larger-max x (greatest_of xs)) (omega arith)

raised : {m n : ℕ} {xs : List ℕ} → m ≤ n → All (AtMost m) xs → All (AtMost n) xs
raised k empty = empty
raised k (and {x} h hs) = and {x = x} (omega arith) (raised k hs)

below-greatest : (xs : List ℕ) → All (AtMost (greatest_of xs)) xs
unfolding greatest_of
below-greatest [] = empty
below-greatest (x ∷ xs) =
    let h = larger-max x (greatest_of xs) in
    and {x = x} (omega arith) (raised (omega arith) (below-greatest xs))

some-between : (d n : ℕ) → 600000 ≤ n * d → 1 ≤ n
some-between d zero g = absurd (omega arith)
some-between d (suc n) g = omega arith

-- the first of a span
first_of : {A : Type 0} (xs : List A) (i j : ℕ) (z : A) → i < j → get_or (span i j xs) 0 z ≡ get_or xs i z
first_of xs i j z h = rw (get_or-take (j - i) (drop i xs) 0 z (omega arith), get_or-drop i xs 0 z, add-zero i)

-- a scene whose first picture is not repeated, among pictures whose figures are 0 where they are repeated. Picture 0's
-- are 0 too, and a row's first picture is 0 in the first row alone
record Own (s : SceneRow) : Type 0 where
  start : s.repeated < s.pictures
  run : s.longest ≤ s.repeated
  runs : s.repeated ≤ s.longest * (s.pictures - s.repeated)
  among : s.peak ≤ s.score
  highest : s.peak ≤ 1000000
  score : s.score ≤ s.peak * changing s.first s
  change : s.change ≤ 25500 * changing s.first s

module _ (ss : List ℕ) (rs : List Bool) (qs : List ℕ) where
  -- starts of scenes
  abbrev Starts : ℕ → List ℕ → Type 0
  Starts b is = Apart 1 (length ss) b is

  -- what holds of the scene from a start with Q holds of all scenes from such starts
  module _ (Q : ℕ → Type 0) (P : SceneRow → Type 0)
      (one : (i j : ℕ) → Q i → i < j → j ≤ length ss → P (scene_of ss rs qs i j)) where
    each_from : {b : ℕ} {is : List ℕ} → Q b → b < length ss → Starts b is → All Q is →
        Each P (scenes_at ss rs qs (b ∷ is))
    unfolding scenes_at
    each_from {b} q k last qs = (one b (length ss) q k (omega arith), tt)
    each_from {b} q k (next {i} g e r) (and x qs) = (one b i q (omega arith) (omega arith), each_from x e r qs)

    -- of those after the first
    each_after : {b : ℕ} {is : List ℕ} → Starts b is → All Q is → Each P (drop 1 (scenes_at ss rs qs (b ∷ is)))
    unfolding scenes_at
    each_after last qs = tt
    each_after (next {i} g e r) (and x qs) = each_from x e r qs

  -- ---- a scene whose first picture is not repeated

  module _ (scored : All (AtMost 1000000) ss) (changed : All (AtMost 25500) qs) (still : Still ss rs)
      (even : Still qs rs) (all : length rs ≡ length ss) (no-score : get_or ss 0 0 ≡ 0)
      (no_change : get_or qs 0 0 ≡ 0) where
    module _ (i j : ℕ) (f : get_or rs i false ≡ false) (h : i < j) (k : j ≤ length ss) where
      abbrev bs : List Bool
      bs = span i j rs

      first-is : get_or bs 0 false ≡ false
      first-is = first_of rs i j false h ∙ f

      size : length bs ≡ j - i
      size = simp (length-take, length-drop) (omega arith)

      unrepeated : count not bs ≡ j - i - count is_true bs
      unrepeated = let b = both bs in let n = size in omega arith

      -- a sum of figures that are 0 where they are repeated, and at picture 0
      sum-few : (most : ℕ) (xs : List ℕ) → Still xs rs → get_or xs 0 0 ≡ 0 → All (AtMost most) (span i j xs) →
          total (span i j xs) ≤ most * (j - i - count is_true bs - in_first i)
      sum-few most xs s z few = rw (← unrepeated) (go i refl)
        where
          t : Still (span i j xs) bs
          t = still-take (j - i) (still-drop i s)

          go : (n : ℕ) → n ≡ i → total (span i j xs) ≤ most * (count not bs - in_first n)
          go zero e =
              unfold in_first in
              first-total most t few (first_of xs i j 0 h ∙ ap (λ (p : ℕ). get_or xs p 0) (sym e) ∙ z) first-is
          go (suc n) e =
              let later : count not bs - in_first (suc n) ≡ count not bs =
              omega (arith, in-later (suc n) (omega arith)) in
              rw later (still-total most t few)

      scene-own : Own (scene_of ss rs qs i j)
      unfolding scene_of
      scene-own =
          let r = runs-first bs first-is in
          let a = rw f at (repeated-step i j rs h (omega arith)) in
          let b = count-few is_true (span (i + 1) j rs) in
          let c = length-take (j - (i + 1)) (drop (i + 1) rs) in
          record {
            start = omega arith;
            run = omega (arith, longest-most 0 bs);
            runs = rw (← unrepeated) r;
            among = peak-most (span i j ss);
            highest = highest 1000000 (all_take (j - i) (all_drop i scored));
            score = sum-few (greatest_of (span i j ss)) ss still no-score (below-greatest (span i j ss));
            change = sum-few 25500 qs even no_change (all_take (j - i) (all_drop i changed));
          }

  -- ---- a scene that starts at a cut

  abbrev Cut : ℕ → Type 0
  Cut i = (1000 < get_or ss i 0) × (i + 2 < length ss)

  scene-later : (i j : ℕ) → Cut i → i < j → j ≤ length ss → LaterScene (length ss) (scene_of ss rs qs i j)
  unfolding scene_of
  scene-later i j c h k = record { cut = omega (arith, peak-step i j ss h k); inside = omega arith }

  -- ---- scenes from starts that lie m apart

  long-at : (d m : ℕ) → 600000 ≤ m * d → {end b : ℕ} {is : List ℕ} → Apart m end b is → (j : ℕ) (z : SceneRow) →
      j + 1 < length (scenes_at ss rs qs (b ∷ is)) →
      600000 ≤ (get_or (scenes_at ss rs qs (b ∷ is)) j z).pictures * d
  unfolding scenes_at scene_of
  long-at d m f last j z h = absurd (omega arith)
  long-at d m f {b = b} (next {i} g e r) zero z h =
      let more : m ≤ i - b = omega arith in
      omega (arith, mul-le-mul_right d more)
  long-at d m f (next {i} g e r) (suc j) z h = long-at d m f r j z (omega arith)

  -- the first starts at the first start
  first-starts : (b : ℕ) (is : List ℕ) (z : SceneRow) → (get_or (scenes_at ss rs qs (b ∷ is)) 0 z).first ≡ b
  unfolding scenes_at scene_of
  first-starts b [] z = refl
  first-starts b (i ∷ is) z = refl

-- what the starts of scenes have that follow from a cut
all-cuts : {P Q : ℕ → Type 0} → ((i : ℕ) → P i → Q i) → {is : List ℕ} → All P is → All Q is
all-cuts f empty = empty
all-cuts f (and {x} h hs) = and (f x h) (all-cuts f hs)

all-at : {A : Type 0} {P : A → Type 0} (z : A) (xs : List A) → ((j : ℕ) → j < length xs → P (get_or xs j z)) → All P xs
all-at z [] h = empty
all-at z (x ∷ xs) h = and (h 0 (omega arith)) (all-at z xs (λ j g. h (suc j) (omega arith)))

-- ---- the scenes of a sample

module _ (o : Opening) (luma : List ℕ) (some : 1 ≤ picture_count o luma) where
  abbrev pxs : List (List ℕ)
  pxs = reduced o luma

  abbrev hs : List (List (List ℕ))
  hs = map (histograms o) pxs

  abbrev scores : List ℕ
  scores = cut_scores hs

  abbrev qs : List ℕ
  qs = changes (rounds_to_nearest o.edition) pxs

  abbrev later : List ℕ
  later = starts_from o.time scores (length scores - 1) 0 1

  count-is : length scores ≡ picture_count o luma
  count-is = sample-scores o luma

  -- the first scene starts at picture 0
  scenes-from : scenes o luma ≡ scenes_at scores (repeats pxs) qs (0 ∷ later)
  unfolding scenes scenes_in scenes_of
  scenes-from = rw (starts_first o.time scores (omega (arith, count-is)))

  starts-are : Apart 1 (length scores) 0 later
  starts-are =
      starts_apart o.time scores 1 (length scores) (some-between o.time) (below_length scores)
      (length scores - 1) 0 1 (omega arith)

  cuts_are : All (λ (i : ℕ). 1000 < get_or scores i 0) later
  cuts_are = starts-cut o.time scores (length scores - 1) 0 1

  own-scenes : opening_fault o ≡ none → Bytes luma → Each Own (scenes o luma)
  unfolding pixel_count
  own-scenes h bl =
      let rs = repeats pxs in
      let n : length rs ≡ length scores = length-repeats pxs ∙ reduced-length o luma ∙ sym count-is in
      let pixels = (sizes o (good o h)).pixels_some in
      let full : All (λ (px : List ℕ). 0 < length px) pxs =
      all-at [] pxs (λ j g. omega (arith, (reduced-at o luma j bl g).1)) in
      rw scenes-from
      (each_from scores rs qs (λ (i : ℕ). get_or rs i false ≡ false) Own
      (scene-own scores rs qs (sample-scored o luma bl) (sample-changed o luma bl (rounds_to_nearest o.edition) h)
      (scores-still (histograms o) pxs) (changes-still (rounds_to_nearest o.edition) pxs full) n (first-score hs)
      (first-change (rounds_to_nearest o.edition) pxs))
      (first-fresh pxs) (omega (arith, count-is)) starts-are (all-cuts (cut-fresh (histograms o) pxs) cuts_are))

  -- picture 0 is the first of the first row
  first-row : (z : SceneRow) → (get_or (scenes o luma) 0 z).first ≡ 0
  first-row z = rw scenes-from (first-starts scores (repeats pxs) qs 0 later z)

  changing-is : (j : ℕ) (z : SceneRow) →
      let s = get_or (scenes o luma) j z in
      changing s.first s ≤ changing j s
  changing-is zero z = rw (first-row z) (omega arith)
  changing-is (suc j) z =
      let later = in-later (suc j) (omega arith) in
      omega arith

  pub sound-scene : opening_fault o ≡ none → Bytes luma → (j : ℕ) (z : SceneRow) → j < length (scenes o luma) →
      SoundScene j (get_or (scenes o luma) j z)
  sound-scene h bl j z k =
      let s = get_or (scenes o luma) j z in
      let x = each_at Own (scenes o luma) j z (own-scenes h bl) k in
      let c = changing-is j z in
      record {
        start = x.start;
        run = x.run;
        runs = x.runs;
        among = x.among;
        highest = x.highest;
        score = omega (arith, x.score, mul-le-mul_left s.peak c);
        change = omega (arith, x.change);
      }

  pub later-scenes : Each (LaterScene (picture_count o luma)) (drop 1 (scenes o luma))
  later-scenes =
      rw (scenes-from, ← count-is)
      (each_after scores (repeats pxs) qs (Cut scores (repeats pxs) qs) (LaterScene (length scores))
      (scene-later scores (repeats pxs) qs) starts-are
      (all-cuts (λ i h. (h, omega (arith, cut_inside hs i h, scores-length hs))) cuts_are))

  pub long-scenes : opening_fault o ≡ none → (j : ℕ) (z : SceneRow) → j + 1 < length (scenes o luma) →
      600000 ≤ (get_or (scenes o luma) j z).pictures * o.time
  long-scenes h =
      let d = o.time in
      let m = least_between d in
      let least = between_is d (good o h).time_low in
      rw scenes-from
      (long-at scores (repeats pxs) qs d m least.reaches
      (starts_apart d scores m (length scores) least.least (below_length scores) (length scores - 1) 0 1
      (omega arith)))
