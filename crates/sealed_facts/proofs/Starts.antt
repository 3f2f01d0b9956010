-- A repeated picture has the cut score 0, and so has picture 0. So a scene's first picture is never repeated.
use Prim.Native.Nat.{ℕ, zero, suc, ◌+◌, ◌-◌, ◌*◌, ◌≤◌, ◌<◌}
use native.Mathlib.Omega.{arith}
use native.Mathlib.Nat.{zero-div}
use mathlib.Core.Path.{◌≡◌, refl, sym, ap, ◌∙◌}
use mathlib.Core.List.{List, [], ◌∷◌, map}
use mathlib.Core.Bool.{Bool, true, false, ◌&&◌, false≢true}
use lib.ListN.{length, get_or, length-map}
use lib.Dec.{leb, ltb}
use Rattle.rules.specs.Bytes.{pick, smaller, total, table, All, and, empty}
use Rattle.rules.specs.Cuts.{bins_apart, per_million, tile_difference, tile_differences, insert, sorted, fifth}
use Rattle.rules.specs.Cuts.{difference}
use Rattle.rules.specs.Cuts.{least_of_six, at, cut_score, cut_scores}
use Rattle.rules.specs.Changes.{repeats_after, repeats}
use Rattle.rules.specs.Scenes.{is_start, starts_from}
use Rattle.rules.proofs.Laws.Lists.{smaller-min}
use Rattle.luma_laws.proofs.Tables.{get_or-mapped}
use Rattle.luma_laws.proofs.Past.{length-repeats}
use Rattle.luma_laws.proofs.Scenes.{start-cut, score-at, scores-length}
use Rattle.sealed_facts.proofs.Still.{Still, still-of, same-one}

-- ---- a picture and itself differ by 0

bins-self : (xs : List ℕ) → bins_apart xs xs ≡ 0
unfolding bins_apart
bins-self [] = refl
bins-self (x ∷ xs) = let h = bins-self xs in omega arith

tile-self : (xs : List ℕ) → tile_difference xs xs ≡ 0
unfolding tile_difference per_million
tile-self xs = rw (bins-self xs) (zero-div (2 * total xs))

abbrev Zeros : List ℕ → Type 0
Zeros ds = All (λ (d : ℕ). d ≡ 0) ds

tiles-self : (xs : List (List ℕ)) → Zeros (tile_differences xs xs)
unfolding tile_differences
tiles-self [] = empty
tiles-self (x ∷ xs) = and (tile-self x) (tiles-self xs)

insert-zeros : (d : ℕ) (ds : List ℕ) → d ≡ 0 → Zeros ds → Zeros (insert d ds)
unfolding insert
insert-zeros d [] h empty = and h empty
insert-zeros d (e ∷ ds) h (and k ks) = go (leb d e) (insert-zeros d ds h ks)
  where
    go : (b : Bool) → Zeros (insert d ds) → Zeros (pick b (d ∷ e ∷ ds) (e ∷ insert d ds))
    go true r = and h (and k ks)
    go false r = and k r

sorted-zeros : (ds : List ℕ) → Zeros ds → Zeros (sorted ds)
unfolding sorted
sorted-zeros [] empty = empty
sorted-zeros (d ∷ ds) (and h hs) = insert-zeros d (sorted ds) h (sorted-zeros ds hs)

zero-at : (ds : List ℕ) (i : ℕ) → Zeros ds → get_or ds i 0 ≡ 0
zero-at [] i h = refl
zero-at (d ∷ ds) zero (and h hs) = h
zero-at (d ∷ ds) (suc i) (and h hs) = zero-at ds i hs

difference-self : (xs : List (List ℕ)) → difference xs xs ≡ 0
unfolding difference fifth
difference-self xs =
    zero-at (sorted (tile_differences xs xs)) 4 (sorted-zeros (tile_differences xs xs) (tiles-self xs))

-- ---- a repeated picture and the one before it are one

after_one : (before : List ℕ) (pxs : List (List ℕ)) (i : ℕ) → get_or (repeats_after before pxs) i false ≡ true →
    get_or (before ∷ pxs) i [] ≡ get_or pxs i []
unfolding repeats_after
after_one before [] i e = absurd (false≢true e)
after_one before (px ∷ pxs) zero e = same-one before px e
after_one before (px ∷ pxs) (suc i) e = after_one px pxs i e

-- picture 0 is not
repeated-one : (pxs : List (List ℕ)) (i : ℕ) → get_or (repeats pxs) i false ≡ true →
    get_or pxs (i - 1) [] ≡ get_or pxs i []
unfolding repeats
repeated-one [] i e = absurd (false≢true e)
repeated-one (px ∷ pxs) zero e = absurd (false≢true e)
repeated-one (px ∷ pxs) (suc i) e =
    let back : suc i - 1 ≡ i = omega arith in
    rw back (after_one px pxs i e)

-- one that is not there is not
repeated-inside : (pxs : List (List ℕ)) (i : ℕ) → get_or (repeats pxs) i false ≡ true → i < length pxs
repeated-inside pxs i e = rw (length-repeats pxs) at (true-inside (repeats pxs) i e)
  where
    true-inside : (bs : List Bool) (i : ℕ) → get_or bs i false ≡ true → i < length bs
    true-inside [] i e = absurd (false≢true e)
    true-inside (b ∷ bs) zero e = omega arith
    true-inside (b ∷ bs) (suc i) e = let h = true-inside bs i e in omega arith

-- ---- so its cut score is 0

six-below : (a b x y z : List (List ℕ)) → least_of_six a b x y z ≤ difference b x
unfolding least_of_six
six-below a b x y z =
    below (smaller (difference a x) (smaller (difference a y) (difference a z))) (difference b x)
    (smaller (difference b y) (difference b z))
  where
    below : (m n k : ℕ) → smaller m (smaller n k) ≤ n
    below m n k = rw (smaller-min m (smaller n k), smaller-min n k) (omega arith)

score-below : (hs : List (List (List ℕ))) (i : ℕ) → cut_score hs i ≤ difference (at hs (i - 1)) (at hs i)
unfolding cut_score
score-below hs i =
    go (leb 2 i && ltb (i + 2) (length hs))
    (six-below (at hs (i - 2)) (at hs (i - 1)) (at hs i) (at hs (i + 1)) (at hs (i + 2)))
  where
    go : {n m : ℕ} (t : Bool) → n ≤ m → pick t n 0 ≤ m
    go true h = h
    go false h = omega arith

module _ (f : List ℕ → List (List ℕ)) (pxs : List (List ℕ)) where
  abbrev scores : List ℕ
  scores = cut_scores (map f pxs)

  n : length (map f pxs) ≡ length pxs
  n = length-map pxs f

  pub repeated-score : (i : ℕ) → get_or (repeats pxs) i false ≡ true → get_or scores i 0 ≡ 0
  repeated-score i e =
      let inside = repeated-inside pxs i e in
      let one : at (map f pxs) (i - 1) ≡ at (map f pxs) i =
      get_or-mapped f pxs (i - 1) [] [] (omega arith) ∙ ap f (repeated-one pxs i e)
      ∙ sym (get_or-mapped f pxs i [] [] inside) in
      let none : difference (at (map f pxs) (i - 1)) (at (map f pxs) i) ≡ 0 =
      rw one (difference-self (at (map f pxs) i)) in
      omega (arith, score-at (map f pxs) i (omega (arith, n)), score-below (map f pxs) i)

  pub scores-still : Still scores (repeats pxs)
  scores-still =
      still-of scores (repeats pxs) (scores-length (map f pxs) ∙ n ∙ sym (length-repeats pxs)) repeated-score

  -- a cut is not repeated
  pub cut-fresh : (i : ℕ) → 1000 < get_or scores i 0 → get_or (repeats pxs) i false ≡ false
  cut-fresh i h = go (get_or (repeats pxs) i false) refl
    where
      go : (t : Bool) → get_or (repeats pxs) i false ≡ t → t ≡ false
      go false e = refl
      go true e = absurd (omega (arith, repeated-score i e))

-- picture 0 is not repeated
pub first-fresh : (pxs : List (List ℕ)) → get_or (repeats pxs) 0 false ≡ false
unfolding repeats
first-fresh [] = refl
first-fresh (px ∷ pxs) = refl

-- s of picture 0 is 0
pub first-score : (hs : List (List (List ℕ))) → get_or (cut_scores hs) 0 0 ≡ 0
unfolding cut_scores
first-score [] = unfold table in refl
first-score (h ∷ hs) = unfold table cut_score in refl

-- every start but the first is a cut
pub starts-cut : (d : ℕ) (ss : List ℕ) (n b i : ℕ) →
    All (λ (j : ℕ). 1000 < get_or ss j 0) (starts_from d ss n b i)
unfolding starts_from
starts-cut d ss zero b i = empty
starts-cut d ss (suc n) b i = go (is_start d ss b i) refl (starts-cut d ss n i (suc i)) (starts-cut d ss n b (suc i))
  where
    go : (t : Bool) → is_start d ss b i ≡ t → All (λ (j : ℕ). 1000 < get_or ss j 0) (starts_from d ss n i (suc i)) →
        All (λ (j : ℕ). 1000 < get_or ss j 0) (starts_from d ss n b (suc i)) →
        All (λ (j : ℕ). 1000 < get_or ss j 0)
        (pick t (i ∷ starts_from d ss n i (suc i)) (starts_from d ss n b (suc i)))
    go true e f g = and (start-cut d ss b i e) f
    go false e f g = g
