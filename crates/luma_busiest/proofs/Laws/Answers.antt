-- The calls' answers in each of their cases.
use Prim.Native.Nat.{ℕ, ◌+◌, ◌-◌, ◌*◌, ◌/◌, ◌≤◌, ◌<◌}
use native.Mathlib.Omega.{arith}
use native.Mathlib.Nat.{mul-pos, mul-le-mul}
use mathlib.Core.Path.{◌≡◌, refl, sym, ap, ◌∙◌}
use mathlib.Core.Bool.{Bool, true, false, ◌&&◌}
use mathlib.Core.List.{List}
use lib.ListN.{length, take, drop, length-take}
use lib.Dec.{leb, eqb}
use borrow.Author.Tests.{le-leb, lt-leb, leb-true, eq-eqb, ne_eqb}
use Rattle.std.specs.Prelude.{Ok, Err}
use Rattle.rules.specs.declared.refusals.Refusal.{Refusal}
use Rattle.rules.specs.Refusals.{Answer, refused, Fault, none, fault, unless, ◌or_else◌, answer}
use Rattle.rules.specs.Bytes.{pick, within}
use Rattle.rules.specs.Opening.{good_size, good_time}
use Rattle.rules.specs.Seal.{no_picture, over}
use Rattle.rules.proofs.Laws.Lists.{both, inside}
use Rattle.rules.specs.Busiest.{least_between, most_scenes, most_fault, most_answer, busiest_luma, busiest_fault}
use Rattle.rules.specs.Busiest.{busiest_part, busiest_answer, busiest_piece}
use Rattle.rules.proofs.Laws.Answers.{given-none, given-same, refused-fault}
use Rattle.luma_laws.proofs.Most.{most-one, most-more}

module _ (d n : ℕ) where
  pub wrong-time : good_time d ≡ false → refused 2 0 ≡ most_answer d n
  unfolding most_answer most_fault
  wrong-time e = simp e

  module _ (time : good_time d ≡ true) where
    pub no-picture : n ≡ 0 → refused 14 0 ≡ most_answer d n
    unfolding most_answer most_fault no_picture
    no-picture e = simp (time, eq-eqb n 0 e)

    pub many-pictures : 750 < n → refused 10 0 ≡ most_answer d n
    unfolding most_answer most_fault no_picture
    many-pictures h = simp (time, ne_eqb n 0 (λ e. omega arith), lt-leb n 750 h)

    allowed : (n ≡ 0 → ⊥) → n ≤ 750 → Ok (most_scenes d n) ≡ most_answer d n
    unfolding most_answer most_fault no_picture
    allowed some few = simp (time, ne_eqb n 0 some, le-leb n 750 few)

    pub few_pictures : n < 3 → (n ≡ 0 → ⊥) → Ok 1 ≡ most_answer d n
    few_pictures h some = ap Ok (sym (most-one d n h)) ∙ allowed some (omega arith)

    pub more-pictures : 3 ≤ n → n ≤ 750 → Ok (1 + (n - 3) / least_between d) ≡ most_answer d n
    more-pictures h few = ap Ok (sym (most-more d n h)) ∙ allowed (λ e. omega arith) few

-- ---- what 1, 2, 14 and 10 let pass

-- a picture has from 1 to 2,088,960 bytes
pub picture-bytes : (w h : ℕ) → good_size w h ≡ true → (0 < w * h) × (w * h ≤ 2088960)
unfolding good_size
picture-bytes w h g =
    let low = within 30 1088 h && within 15 1920 w in
    let two = (both low (leb h (2 * w)) (both (low && leb h (2 * w)) (leb w (4 * h)) g).0).0 in
    let tall = inside 30 1088 h (both (within 30 1088 h) (within 15 1920 w) two).0 in
    let wide = inside 15 1920 w (both (within 30 1088 h) (within 15 1920 w) two).1 in
    let some : 0 < w = omega (arith, wide.0) in
    let more : 0 < h = omega (arith, tall.0) in
    let most : w * h ≤ 1920 * 1088 = mul-le-mul {n₁ = w} {m₁ = h} {n₂ = 1920} {m₂ = 1088} wide.1 tall.1 in
    (mul-pos some more, omega arith)

-- and a luma at most 1,566,720,000
pub luma-most : (w h n : ℕ) → good_size w h ≡ true → n ≤ 750 → n * (w * h) ≤ 1566720000
luma-most w h n g few =
    let area : w * h ≤ 2088960 = (picture-bytes w h g).1 in
    let most : n * (w * h) ≤ 750 * 2088960 = mul-le-mul {n₁ = n} {m₁ = w * h} {n₂ = 750} {m₂ = 2088960} few area in
    omega arith

most-passed : (d n : ℕ) → most_fault d n ≡ none → (good_time d ≡ true) × (n ≤ 750)
unfolding most_fault no_picture
most-passed d n e = go (good_time d) (eqb n 0) (leb n 750) refl refl e
  where
    go : (a b c : Bool) → good_time d ≡ a → leb n 750 ≡ c →
        (unless a 2 or_else pick b (fault 14 0) none or_else unless c 10) ≡ none → (good_time d ≡ true) × (n ≤ 750)
    go true false true x y f = (x, leb-true n 750 y)
    go true false false x y f = let z : ◌≡◌ {A = ℕ} 0 1 = cc in absurd (omega arith)
    go true true c x y f = let z : ◌≡◌ {A = ℕ} 0 1 = cc in absurd (omega arith)
    go false b c x y f = let z : ◌≡◌ {A = ℕ} 0 1 = cc in absurd (omega arith)

pub answered : (d n k : ℕ) → most_answer d n ≡ Ok k → (good_time d ≡ true) × (n ≤ 750)
unfolding most_answer
answered d n k e = most-passed d n (given-none (most_fault d n) (most_scenes d n) k e)

pub all-passed : (w h d n : ℕ) → busiest_fault w h d n ≡ none → (good_size w h ≡ true) × (n ≤ 750)
unfolding busiest_fault
all-passed w h d n e = go (good_size w h) refl e
  where
    go : (b : Bool) → good_size w h ≡ b → (unless b 1 or_else most_fault d n) ≡ none → (good_size w h ≡ true)
        × (n ≤ 750)
    go true g f = (g, (most-passed d n f).1)
    go false g f = let z : ◌≡◌ {A = ℕ} 0 1 = cc in absurd (omega arith)

-- ---- the piece, in each case

module _ (w h d n at : ℕ) (piece : List ℕ) where
  -- the answer a, and this piece
  abbrev pub Left : Answer ℕ → List ℕ → Type 0
  Left a after = (a ≡ busiest_answer w h d n at (length piece)) × (after ≡ busiest_piece w h d n at piece)

  pub wrong_size : good_size w h ≡ false → Left (refused 1 0) piece
  unfolding busiest_answer busiest_piece busiest_fault
  wrong_size g = (simp g, simp g)

  module _ (size : good_size w h ≡ true) where
    pub refused-as : (r : Refusal) → most_answer d n ≡ Err r → Left (Err r) piece
    unfolding busiest_answer busiest_piece busiest_fault most_answer
    refused-as r e = let f = refused-fault (most_fault d n) (most_scenes d n) r e in (simp (size, f), simp (size, f))

    pub filled : (k : ℕ) (r : ℕ) (after : List ℕ) → most_answer d n ≡ Ok k →
        r ≡ length (busiest_part w h d n at (length piece)) →
        after ≡ over (busiest_part w h d n at (length piece)) piece → Left (Ok r) after
    unfolding busiest_answer busiest_piece busiest_fault most_answer
    filled k r after e long made =
        let f = given-none (most_fault d n) (most_scenes d n) k e in
        (ap Ok long ∙ simp (size, f), made ∙ simp (size, f))

-- an answer counts bytes of the piece
pub done-fits : (w h d n at size k : ℕ) → busiest_answer w h d n at size ≡ Ok k → k ≤ size
unfolding busiest_answer busiest_part
done-fits w h d n at size k e = go (busiest_fault w h d n) e
  where
    rest : List ℕ
    rest = drop at (busiest_luma w h d n)

    go : (f : Fault) → answer f (length (take size rest)) ≡ Ok k → k ≤ size
    go f g = let e = given-same f _ _ g in omega (arith, e, length-take size rest)
