-- One sample has that many scenes: the busiest luma, whose scenes start at multiples of m.
use Prim.Native.Nat.{ℕ, suc, ◌+◌, ◌-◌, ◌*◌, ◌/◌, ◌≤◌, ◌<◌}
use native.Mathlib.Omega.{arith}
use native.Mathlib.Nat.{zero-mul, one-mul, suc-mul, mul-pos, mul-div_cancel, mul-le-mul_right, le-div_iff_mul-le}
use native.Mathlib.Nat.{lt-div-mul-add, le_refl}
use native.Mathlib.Decide.{dec_le, dec_lt}
use mathlib.Core.Path.{◌≡◌, refl, sym, ap, ◌∙◌}
use mathlib.Core.Bool.{Bool}
use mathlib.Core.List.{List, [], ◌∷◌, map}
use lib.ListN.{length, get_or, replicate, length-map, length-replicate, get_or-eq_default}
use borrow.Author.Tests.{lt-ltb, le-ltb, le-leb, lt-leb}
use Rattle.rules.specs.declared.Opening.{Opening}
use Rattle.rules.specs.declared.SceneRow.{SceneRow}
use Rattle.rules.specs.Bytes.{smaller, table, parts}
use Rattle.rules.specs.Refusals.{none}
use Rattle.rules.specs.Opening.{opening_fault}
use Rattle.rules.specs.Pictures.{picture_size, picture_count, pictures, pixels}
use Rattle.rules.specs.Histograms.{histograms}
use Rattle.rules.specs.Cuts.{cut_scores}
use Rattle.rules.specs.Scenes.{starts, scene_of, scenes_at, scenes_of}
use Rattle.rules.specs.Changes.{repeats}
use Rattle.rules.specs.Seal.{reduced, scenes_in, scenes}
use Rattle.rules.specs.Busiest.{least_between, most_scenes, shade, busiest_luma, luma_for, OneHasThatMany}
use Rattle.rules.proofs.Laws.Lists.{length-table}
use Rattle.luma_laws.proofs.Tables.{get_or-table, get_or-mapped}
use Rattle.luma_laws.proofs.Scenes.{starts_first, cut_inside, score-at, scores-length}
use Rattle.luma_laws.proofs.Sizes.{good}
use Rattle.luma_laws.proofs.Least.{between_is, between-three}
use Rattle.luma_busiest.proofs.Laws.Flat.{parts-joined}
use Rattle.luma_busiest.proofs.Laws.Plain.{plain, plain-pixels}
use Rattle.luma_busiest.proofs.Laws.Luma.{luma-length, luma_bytes}
use Rattle.luma_busiest.proofs.Laws.Scores.{Runs, score-zero, score-full}
use Rattle.luma_busiest.proofs.Laws.Starts.{Peaks, named-starts}

-- ---- its pictures

module _ (o : Opening) (n : ℕ) (opened : opening_fault o ≡ none) (few : n ≤ 750) where
  all_whole : picture_count o (luma_for o n) ≡ n
  unfolding picture_count picture_size
  all_whole =
      let g = good o opened in
      let wide : 0 < o.width = omega (arith, g.width_low) in
      let tall : 0 < o.height = omega (arith, g.height_low) in
      let size = luma-length o.width o.height o.time n in
      rw (opened, size, mul-div_cancel n (mul-pos wide tall)) (go (dec_le 750 n))
    where
      go : Dec (750 ≤ n) → smaller 750 n ≡ n
      go (yes h) = rw (le-leb 750 n h) (omega arith)
      go (no h) = rw (lt-leb 750 n (omega arith))

  -- picture i
  shaded : ℕ → List ℕ
  shaded i = replicate (picture_size o) (shade o.time i)

  reduced-are : reduced o (luma_for o n) ≡ map (pixels o) (table n 0 shaded)
  unfolding reduced pictures picture_size busiest_luma shaded
  reduced-are =
      let size = picture_size o in
      ap (λ (k : ℕ). map (pixels o) (parts k size (luma_for o n))) all_whole
      ∙ ap (map (pixels o)) (parts-joined n 0 size shaded (λ i. length-replicate size (shade o.time i)))

  -- the histograms of its pictures
  seen : List (List (List ℕ))
  seen = map (histograms o) (reduced o (luma_for o n))

  reduced-count : length (reduced o (luma_for o n)) ≡ n
  reduced-count = rw reduced-are (length-map (table n 0 shaded) (pixels o) ∙ length-table n 0 shaded)

  seen-count : length seen ≡ n
  unfolding seen
  seen-count = length-map (reduced o (luma_for o n)) (histograms o) ∙ reduced-count

  seen_at : Runs o (least_between o.time) seen
  unfolding seen shaded plain shade
  seen_at i l =
      let size = seen-count in
      let some : i < length (reduced o (luma_for o n)) = omega (arith, reduced-count) in
      let here : i < length (table n 0 shaded) = omega (arith, length-table n 0 shaded) in
      let first : 0 + i ≡ i = omega arith in
      get_or-mapped (histograms o) (reduced o (luma_for o n)) i [] [] some
      ∙ ap (histograms o)
      (ap (λ (pxs : List (List ℕ)). get_or pxs i []) reduced-are
      ∙ get_or-mapped (pixels o) (table n 0 shaded) i [] [] here
      ∙ ap (pixels o) (get_or-table n 0 shaded i [] (omega arith) ∙ ap shaded first)
      ∙ plain-pixels o (shade o.time i))

  -- ---- its scores and starts

  m : ℕ
  m = least_between o.time

  three : 3 ≤ m
  unfolding m
  three = let g = good o opened in between-three o.time g.time_low g.time_high

  peaks : Peaks m (cut_scores seen)
  unfolding m
  peaks = record { between = λ t i low high. go t i low high (dec_lt i (length seen)); there = full }
    where
      go : (t i : ℕ) → t * m < i → i < suc t * m → Dec (i < length seen) → get_or (cut_scores seen) i 0 ≡ 0
      go t i low high (yes l) = score-at seen i l ∙ score-zero o (good o opened) m seen seen_at t i low high
      go t i low high (no l) = get_or-eq_default (cut_scores seen) 0 {n = i} (omega (arith, scores-length seen))

      full : (t : ℕ) → suc t * m + 2 < length (cut_scores seen) → get_or (cut_scores seen) (suc t * m) 0 ≡ 1000000
      full t l =
          let size = scores-length seen in
          score-at seen (suc t * m) (omega arith)
          ∙ score-full o (good o opened) m seen seen_at t three (omega arith)

  -- starts behind 0: q of them, if so many multiples of m have two pictures behind them
  starts-named : (q : ℕ) → 1 ≤ n → ((t : ℕ) → t < q → suc t * m + 2 < n) → n ≤ suc q * m + 2 →
      starts o.time (cut_scores seen) ≡ table (suc q) 0 (λ t. t * m)
  unfolding table m
  starts-named q some inside outside =
      let d = o.time in
      let ss = cut_scores seen in
      let least = between_is d (good o opened).time_low in
      let size : length ss ≡ n = scores-length seen ∙ seen-count in
      let none = zero-mul m in
      let all : q - 0 ≡ q = omega arith in
      let far = three in
      let behind = named-starts d m ss least three peaks q (λ t l. omega (arith, inside t l)) (omega arith)
      (λ i h. let k = cut_inside seen i h in omega (arith, scores-length seen)) (length ss - 1) 0 1
      (omega arith) (omega arith) (omega (arith, one-mul m)) (omega arith) in
      rw (starts_first d ss (omega arith), none) (ap (λ (r : List ℕ). 0 ∷ r) (rw (none, all) at behind))

  starts-are : 1 ≤ n → starts o.time (cut_scores seen) ≡ table (most_scenes o.time n) 0 (λ t. t * m)
  unfolding most_scenes m
  starts-are some = elim (dec_lt n 3) [
    | yes h ↦
        rw (lt-ltb n 3 h) (starts-named 0 some (λ t l. absurd (omega arith)) (omega (arith, three, one-mul m)))
    | no h ↦
        let q = (n - 3) / m in
        let positive : 0 < m = omega (arith, three) in
        let under : q * m ≤ n - 3 = (le-div_iff_mul-le positive).0 (le_refl q) in
        let over : n - 3 < q * m + m = lt-div-mul-add {a = n - 3} {b = m} positive in
        let next : 1 + q ≡ suc q = omega arith in
        rw (le-ltb n 3 (omega arith), next)
        (starts-named q some (λ t l. let up : suc t ≤ q = omega arith in omega (arith, mul-le-mul_right m up))
        (omega (arith, suc-mul q m)))
  ]

-- ---- its scenes

-- each scene's first picture is its start
firsts : (ss : List ℕ) (rs : List Bool) (qs is : List ℕ) →
    map (λ (s : SceneRow). s.first) (scenes_at ss rs qs is) ≡ is
unfolding scenes_at scene_of
firsts ss rs qs [] = refl
firsts ss rs qs (i ∷ []) = refl
firsts ss rs qs (i ∷ j ∷ is) = ap (λ (r : List ℕ). i ∷ r) (firsts ss rs qs (j ∷ is))

named : (o : Opening) (n : ℕ) → opening_fault o ≡ none → n ≤ 750 → 1 ≤ n →
    map (λ (s : SceneRow). s.first) (scenes o (luma_for o n)) ≡
    table (most_scenes o.time n) 0 (λ t. t * least_between o.time)
unfolding scenes scenes_in scenes_of m seen
named o n opened few some =
    let pxs = reduced o (luma_for o n) in
    let ss = cut_scores (map (histograms o) pxs) in
    firsts ss (repeats pxs) _ (starts o.time ss) ∙ starts-are o n opened few some

pub one-has-that-many : OneHasThatMany
unfolding picture_size
one-has-that-many o n opened some few =
    let starts = named o n opened few some in
    let rows = scenes o (luma_for o n) in
    record {
      bytes = luma_bytes o.width o.height o.time n;
      size = luma-length o.width o.height o.time n;
      whole = all_whole o n opened few;
      most = sym (length-map rows (λ (s : SceneRow). s.first))
          ∙ ap length starts
          ∙ length-table (most_scenes o.time n) 0 (λ t. t * least_between o.time);
      starts = starts;
    }
