-- The laws of `tally`, whatever is added up: sums of blocks, counts of bins, sums of differences
-- are tallies with another f.
use Prim.Native.Nat.{ℕ, zero, suc, ◌+◌, ◌*◌, ◌/◌, ◌≤◌, ◌<◌}
use native.Mathlib.Omega.{arith}
use native.Mathlib.Nat.{add-zero, mul-suc, suc-mul, zero-mul, add-mul, div-lt_iff_lt-mul, le-div_iff_mul-le}
use native.Mathlib.Nat.{div-eq_of_lt-le}
use mathlib.Core.Path.{◌≡◌, refl, sym, ap, ◌∙◌}
use mathlib.Core.List.{List, [], ◌∷◌, ◌++◌, map}
use lib.ListN.{length, take, drop, length-take, length-drop}
use lib.Dec.{eqb}
use lib.Seq.{length-take-le}
use borrow.Author.Tests.{eq-eqb, ne_eqb}
use Rattle.rules.specs.Bytes.{pick, total, tally}

module _ {ℓ} {A : Type ℓ} where
  -- a list that goes on
  pub tally-append : (f : ℕ → A → ℕ) (q : ℕ) (s t : List A) →
      tally f q (s ++ t) ≡ tally f q s + tally f (q + length s) t
  unfolding tally
  tally-append f q [] t = rw add-zero (omega arith)
  tally-append f q (x ∷ s) t =
      let e : q + suc (length s) ≡ suc q + length s = omega arith in
      rw e (omega (arith, tally-append f (suc q) s t))

  -- a list cut at any place, whether or not it reaches there
  pub tally-split : (f : ℕ → A → ℕ) (k q : ℕ) (t : List A) →
      tally f q t ≡ tally f q (take k t) + tally f (q + k) (drop k t)
  unfolding tally
  tally-split f zero q t = rw add-zero (omega arith)
  tally-split f (suc k) q [] = omega arith
  tally-split f (suc k) q (a ∷ t) =
      let e : q + suc k ≡ suc q + k = omega arith in
      rw e (omega (arith, tally-split f k (suc q) t))

  -- two tallies are equal where each element gives the same to both, wherever the two lists stand
  pub tally-shift : (f g : ℕ → A → ℕ) (q x : ℕ) (t : List A) →
      ((j : ℕ) (a : A) → j < length t → f (q + j) a ≡ g (x + j) a) → tally f q t ≡ tally g x t
  unfolding tally
  tally-shift f g q x [] h = refl
  tally-shift f g q x (a ∷ t) h =
      let first : f q a ≡ g x a = rw (add-zero q, add-zero x) at (h 0 a (omega arith)) in
      let rest : tally f (suc q) t ≡ tally g (suc x) t =
      tally-shift f g (suc q) (suc x) t
      (λ j b k.
      let e : suc q + j ≡ q + suc j = omega arith in
      let d : suc x + j ≡ x + suc j = omega arith in
      rw (e, d) (h (suc j) b (omega arith))) in
      omega arith

  -- where each element gives nothing
  pub tally-none : (f : ℕ → A → ℕ) (q : ℕ) (t : List A) → ((j : ℕ) (a : A) → j < length t → f (q + j) a ≡ 0) →
      tally f q t ≡ 0
  unfolding tally
  tally-none f q t h = tally-shift f (λ i a. 0) q 0 t h ∙ nothing 0 t
    where
      nothing : (q : ℕ) (t : List A) → tally (λ i a. 0) q t ≡ 0
      nothing q [] = refl
      nothing q (a ∷ t) = omega (arith, nothing (suc q) t)

  -- those of the places c × n to c × n + n: the elements at a place i with i / n = c
  pub tally-cut : (n c : ℕ) (g : A → ℕ) (t : List A) → 0 < n →
      tally (λ i a. pick (eqb (i / n) c) (g a) 0) 0 t ≡ tally (λ i a. g a) 0 (take n (drop (c * n) t))
  tally-cut n c g t some =
      let f : ℕ → A → ℕ = λ i a. pick (eqb (i / n) c) (g a) 0 in
      let u = drop (c * n) t in
      let first : tally f 0 (take (c * n) t) ≡ 0 =
      tally-none f 0 (take (c * n) t)
      (λ j a k.
      let low : (0 + j) / n < c = (div-lt_iff_lt-mul some).1 (omega (arith, length-take (c * n) t)) in
      rw (ne_eqb ((0 + j) / n) c (λ e. omega arith))) in
      let own : tally f (0 + c * n) (take n u) ≡ tally (λ i a. g a) 0 (take n u) =
      tally-shift f (λ i a. g a) (0 + c * n) 0 (take n u)
      (λ j a k.
      let here : (0 + c * n + j) / n ≡ c =
      div-eq_of_lt-le n (omega arith) (omega (arith, add-mul c 1 n, length-take n u)) in
      rw (eq-eqb ((0 + c * n + j) / n) c here)) in
      let last : tally f (0 + c * n + n) (drop n u) ≡ 0 =
      tally-none f (0 + c * n + n) (drop n u)
      (λ j a k.
      let high : c + 1 ≤ (0 + c * n + n + j) / n = (le-div_iff_mul-le some).1 (omega (arith, add-mul c 1 n)) in
      rw (ne_eqb ((0 + c * n + n + j) / n) c (λ e. omega arith))) in
      omega (arith, tally-split f (c * n) 0 t, tally-split f n (0 + c * n) u)

  pub tally-map : (g : A → ℕ) (q : ℕ) (t : List A) → tally (λ i a. g a) q t ≡ total (map g t)
  unfolding tally total
  tally-map g q [] = refl
  tally-map g q (a ∷ t) = omega (arith, tally-map g (suc q) t)

  -- where each gives at most k
  pub tally-most : (f : ℕ → A → ℕ) (k q : ℕ) (t : List A) → ((i : ℕ) (a : A) → f i a ≤ k) → tally f q t ≤ k * length t
  unfolding tally
  tally-most f k q [] h = omega arith
  tally-most f k q (a ∷ t) h = omega (arith, h q a, tally-most f k (suc q) t h, mul-suc k (length t))

  tally-const : (k q : ℕ) (t : List A) → tally (λ i a. k) q t ≡ length t * k
  unfolding tally
  tally-const k q [] = sym (zero-mul k)
  tally-const k q (a ∷ t) = omega (arith, tally-const k (suc q) t, suc-mul (length t) k)

  -- where the m places from `from` on give k each, and no other gives anything
  pub tally-span : (f : ℕ → A → ℕ) (from m k : ℕ) (t : List A) → from + m ≤ length t →
      ((i : ℕ) (a : A) → i < from → f i a ≡ 0) →
      ((i : ℕ) (a : A) → from ≤ i → i < from + m → f i a ≡ k) → ((i : ℕ) (a : A) → from + m ≤ i → f i a ≡ 0) →
      tally f 0 t ≡ m * k
  tally-span f from m k t long before inside after =
      let u = drop from t in
      let first : tally f 0 (take from t) ≡ 0 =
      tally-none f 0 (take from t) (λ j a h. before (0 + j) a (omega (arith, length-take from t))) in
      let size : length (take m u) ≡ m = length-take-le m u (simp length-drop (omega arith)) in
      let own : tally f (0 + from) (take m u) ≡ m * k =
      tally-shift f (λ i a. k) (0 + from) 0 (take m u) (λ j a h. inside (0 + from + j) a (omega arith) (omega arith))
      ∙ tally-const k 0 (take m u)
      ∙ ap (λ (n : ℕ). n * k) size in
      let last : tally f (0 + from + m) (drop m u) ≡ 0 =
      tally-none f (0 + from + m) (drop m u) (λ j a h. after (0 + from + m + j) a (omega arith)) in
      omega (arith, tally-split f from 0 t, tally-split f m (0 + from) u)

  -- where the places alone count, lists of one length give the same
  pub tally-places : {B : Type ℓ} (g : ℕ → ℕ) (q : ℕ) (s : List A) (t : List B) → length s ≡ length t →
      tally (λ i a. g i) q s ≡ tally (λ i b. g i) q t
  unfolding tally
  tally-places g q [] [] e = refl
  tally-places g q [] (b ∷ t) e = absurd (omega arith)
  tally-places g q (a ∷ s) [] e = absurd (omega arith)
  tally-places g q (a ∷ s) (b ∷ t) e = omega (arith, tally-places g (suc q) s t (omega arith))

  -- the sum of two tallies
  pub tally-add : (f g : ℕ → A → ℕ) (q : ℕ) (t : List A) →
      tally (λ i a. f i a + g i a) q t ≡ tally f q t + tally g q t
  unfolding tally
  tally-add f g q [] = omega arith
  tally-add f g q (a ∷ t) = omega (arith, tally-add f g (suc q) t)

-- where each number gives itself
pub tally-all : (f : ℕ → ℕ → ℕ) (q : ℕ) (t : List ℕ) → ((j b : ℕ) → j < length t → f (q + j) b ≡ b) →
    tally f q t ≡ total t
unfolding tally total
tally-all f q t h = tally-shift f (λ i b. b) q 0 t h ∙ self 0 t
  where
    self : (q : ℕ) (t : List ℕ) → tally (λ i b. b) q t ≡ total t
    self q [] = refl
    self q (b ∷ t) = omega (arith, self (suc q) t)
