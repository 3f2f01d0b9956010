-- The cut scores of pictures that go from black to white, or back, at each multiple of m: 1,000,000 there, 0 between.
use Prim.Native.Nat.{ℕ, suc, ◌+◌, ◌-◌, ◌*◌, ◌/◌, ◌%◌, ◌≤◌, ◌<◌}
use native.Mathlib.Omega.{arith}
use native.Mathlib.Nat.{suc-mul, div-eq_of_lt-le}
use native.Mathlib.Decide.{ℕ_discrete}
use mathlib.Core.Path.{◌≡◌, refl, ◌∙◌}
use mathlib.Core.Bool.{Bool, true, false, ◌&&◌}
use mathlib.Core.List.{List}
use lib.ListN.{length}
use lib.Dec.{leb, ltb}
use borrow.Author.Tests.{leb-true, ltb-true, le-leb, lt-ltb}
use Rattle.rules.specs.declared.Opening.{Opening}
use Rattle.rules.specs.Bytes.{pick, smaller}
use Rattle.rules.specs.Cuts.{difference, least_of_six, at, cut_score}
use Rattle.luma_laws.proofs.Sizes.{Good}
use Rattle.rules.specs.Busiest.{tone}
use Rattle.luma_busiest.proofs.Laws.Plain.{plain, plain-same, black-to-white, white-to-black}
use Rattle.luma_busiest.proofs.Laws.Tones.{tone-even, tone-odd}

smaller-zero : (a b : ℕ) → smaller a (smaller 0 b) ≡ 0
smaller-zero a b = rw (le-leb 0 b (omega arith)) (go (leb a 0) refl)
  where
    go : (x : Bool) → leb a 0 ≡ x → pick x a 0 ≡ 0
    go true e = omega (arith, leb-true a 0 e)
    go false e = refl

least_zero : (a b x y z : List (List ℕ)) → difference b x ≡ 0 → least_of_six a b x y z ≡ 0
unfolding least_of_six
least_zero a b x y z e =
    let first = smaller (difference a x) (smaller (difference a y) (difference a z)) in
    rw e (smaller-zero first (smaller (difference b y) (difference b z)))

least-full : (a x : List (List ℕ)) → difference a x ≡ 1000000 → least_of_six a a x x x ≡ 1000000
unfolding least_of_six
least-full a x e = rw e

-- the histograms of pictures that come in runs of m
abbrev pub Runs : Opening → ℕ → List (List (List ℕ)) → Type 0
Runs o m hs = (i : ℕ) → i < length hs → at hs i ≡ plain o (tone (i / m))

module _ (o : Opening) (g : Good o) where
  -- a run and the next
  tones-apart : (t : ℕ) → difference (plain o (tone t)) (plain o (tone (suc t))) ≡ 1000000
  tones-apart t = go (ℕ_discrete (t % 2) 0)
    where
      go : Dec (t % 2 ≡ 0) → difference (plain o (tone t)) (plain o (tone (suc t))) ≡ 1000000
      go (yes e) = rw (tone-even t e, tone-odd (suc t) (λ z. omega arith)) (black-to-white o g)
      go (no e) = rw (tone-odd t e, tone-even (suc t) (omega arith)) (white-to-black o g)

  module _ (m : ℕ) (hs : List (List (List ℕ))) (runs : Runs o m hs) where
    in-run : (t i : ℕ) → t * m ≤ i → i < suc t * m → i < length hs → at hs i ≡ plain o (tone t)
    in-run t i low high h =
        let here : i / m ≡ t = div-eq_of_lt-le m low (omega (arith, suc-mul t m)) in
        runs i h ∙ rw here

    pub score-zero : (t i : ℕ) → t * m < i → i < suc t * m → cut_score hs i ≡ 0
    unfolding cut_score
    score-zero t i low high = go (leb 2 i) (ltb (i + 2) (length hs)) refl refl
      where
        s : ℕ
        s = least_of_six (at hs (i - 2)) (at hs (i - 1)) (at hs i) (at hs (i + 1)) (at hs (i + 2))

        go : (x y : Bool) → leb 2 i ≡ x → ltb (i + 2) (length hs) ≡ y → pick (x && y) s 0 ≡ 0
        go true true ex ey =
            let last = ltb-true (i + 2) (length hs) ey in
            let before = in-run t (i - 1) (omega arith) (omega arith) (omega arith) in
            let own = in-run t i (omega arith) high (omega arith) in
            least_zero (at hs (i - 2)) (at hs (i - 1)) (at hs i) (at hs (i + 1)) (at hs (i + 2))
            (rw (before, own) (plain-same o g (tone t)))
        go true false ex ey = refl
        go false y ex ey = refl

    pub score-full : (t : ℕ) → 3 ≤ m → suc t * m + 2 < length hs → cut_score hs (suc t * m) ≡ 1000000
    unfolding cut_score
    score-full t three inside =
        let i = suc t * m in
        let e = suc-mul t m in
        let f = suc-mul (suc t) m in
        let a = in-run t (i - 2) (omega arith) (omega arith) (omega arith) in
        let b = in-run t (i - 1) (omega arith) (omega arith) (omega arith) in
        let x = in-run (suc t) i (omega arith) (omega arith) (omega arith) in
        let y = in-run (suc t) (i + 1) (omega arith) (omega arith) (omega arith) in
        let z = in-run (suc t) (i + 2) (omega arith) (omega arith) (omega arith) in
        rw (le-leb 2 i (omega arith), lt-ltb (i + 2) (length hs) inside, a, b, x, y, z)
        (least-full (plain o (tone t)) (plain o (tone (suc t))) (tones-apart t))
