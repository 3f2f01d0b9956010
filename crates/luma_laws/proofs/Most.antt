-- No sample has more scenes: each start is at least m pictures after the one before and has two pictures behind it.
use Prim.Native.Nat.{ℕ, ◌+◌, ◌-◌, ◌*◌, ◌/◌, ◌≤◌, ◌<◌}
use native.Mathlib.Omega.{arith}
use native.Mathlib.Nat.{mul_comm, mul-le-mul_left, le-div_iff_mul-le, zero-div, le_refl}
use native.Mathlib.Decide.{dec_lt}
use mathlib.Core.Path.{◌≡◌, refl, ◌∙◌}
use mathlib.Core.Bool.{Bool}
use mathlib.Core.List.{List, [], ◌∷◌, map}
use lib.ListN.{length, length-map}
use borrow.Author.Tests.{lt-ltb, le-ltb}
use Rattle.rules.specs.declared.Opening.{Opening}
use Rattle.rules.specs.Refusals.{none}
use Rattle.rules.specs.Opening.{opening_fault}
use Rattle.rules.specs.Pictures.{picture_count}
use Rattle.rules.specs.Histograms.{histograms}
use Rattle.rules.specs.Cuts.{cut_scores}
use Rattle.rules.specs.Scenes.{starts_from, starts, scenes_of}
use Rattle.rules.specs.Seal.{reduced, scenes_in, scenes}
use Rattle.luma_laws.proofs.Scenes.{Apart, starts_apart, cut_inside, apart-count}
use Rattle.luma_laws.proofs.Scenes.{scenes-length, reduced-length, pictures-most}
use Rattle.luma_laws.proofs.Sizes.{good}
use Rattle.rules.specs.Busiest.{least_between, most_scenes, NoneHasMore}
use Rattle.luma_laws.proofs.Least.{between_is, between-three}

-- of n pictures, the starts behind 0
few-starts : (m n : ℕ) (is : List ℕ) → 3 ≤ m → Apart m (n - 2) 0 is → length is ≤ (n - 3) / m
few-starts m n is h r =
    let some : 0 < m = omega arith in
    (le-div_iff_mul-le some).1 (omega (arith, apart-count r, mul_comm m (length is)))

few-scenes : (d : ℕ) (hs : List (List (List ℕ))) (rs : List Bool) (qs : List ℕ) → 10000 ≤ d → d ≤ 200000 →
    length (scenes_of d (cut_scores hs) rs qs) ≤ 1 + (length hs - 3) / least_between d
unfolding scenes_of starts
few-scenes d hs rs qs low high =
    rw (scenes-length (cut_scores hs) rs qs (starts d (cut_scores hs))) (go (cut_scores hs) refl)
  where
    go : (ss : List ℕ) → cut_scores hs ≡ ss → length (starts d ss) ≤ 1 + (length hs - 3) / least_between d
    go [] e = omega arith
    go (s ∷ ss) e =
        let m = least_between d in
        let long = (between_is d low).least in
        let far = starts_apart d (cut_scores hs) m (length hs - 2) long (cut_inside hs) (length ss) 0 1
        (omega arith) in
        let apart = rw e at far in
        let is = starts_from d (s ∷ ss) (length ss) 0 1 in
        omega (arith, few-starts m (length hs) is (between-three d low high) apart)

pub none-has-more : NoneHasMore
unfolding scenes scenes_in most_scenes
none-has-more o luma h =
    let pxs = reduced o luma in
    let hs = map (histograms o) pxs in
    let g = good o h in
    let size : length hs ≡ picture_count o luma = length-map pxs (histograms o) ∙ reduced-length o luma in
    let few : length (scenes o luma) ≤ 1 + (length hs - 3) / least_between o.time =
    few-scenes o.time hs _ _ g.time_low g.time_high in
    go (dec_lt (picture_count o luma) 3) (rw size at few)
  where
    n : ℕ
    n = picture_count o luma

    go : Dec (n < 3) → length (scenes o luma) ≤ 1 + (n - 3) / least_between o.time →
        length (scenes o luma) ≤ most_scenes o.time n
    go (yes l) f =
        let none : n - 3 ≡ 0 = omega arith in
        let zero : (n - 3) / least_between o.time ≡ 0 = rw none (zero-div (least_between o.time)) in
        rw (lt-ltb n 3 l) (omega arith)
    go (no l) f = rw (le-ltb n 3 (omega arith)) (omega arith)

-- whatever N and d, document 01's 250 is the greatest number of all
pub most-few : (d n : ℕ) → 10000 ≤ d → d ≤ 200000 → n ≤ 750 → most_scenes d n ≤ 250
unfolding most_scenes
most-few d n low high few = elim (dec_lt n 3) [
  | yes l ↦ rw (lt-ltb n 3 l) (omega arith)
  | no l ↦
      let q = (n - 3) / least_between d in
      let three = between-three d low high in
      let some : 0 < least_between d = omega arith in
      let all : q * least_between d ≤ n - 3 = (le-div_iff_mul-le some).0 (le_refl q) in
      rw (le-ltb n 3 (omega arith)) (omega (arith, mul-le-mul_left q three))
]

-- so a sample has at most 250 scenes
pub sample-few : (o : Opening) (luma : List ℕ) → opening_fault o ≡ none → length (scenes o luma) ≤ 250
sample-few o luma h =
    let g = good o h in
    let most = most-few o.time (picture_count o luma) g.time_low g.time_high (pictures-most o luma) in
    omega (arith, none-has-more o luma h, most)

-- the number as it is worked out
pub most-one : (d n : ℕ) → n < 3 → most_scenes d n ≡ 1
unfolding most_scenes
most-one d n h = rw (lt-ltb n 3 h)

pub most-more : (d n : ℕ) → 3 ≤ n → most_scenes d n ≡ 1 + (n - 3) / least_between d
unfolding most_scenes
most-more d n h = rw (le-ltb n 3 h)
