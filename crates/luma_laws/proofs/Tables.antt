-- What stands at a place of a table, of a string's parts, and of lines joined.
use Prim.Native.Nat.{ℕ, zero, suc, ◌+◌, ◌*◌, ◌<◌}
use native.Mathlib.Omega.{arith}
use native.Mathlib.Nat.{add-zero, suc-mul, zero-mul, zero-add}
use mathlib.Core.Path.{◌≡◌, refl, ap, ◌∙◌}
use mathlib.Core.List.{List, [], ◌∷◌, ◌++◌, map}
use lib.ListN.{length, get_or, take, drop, get_or-append}
use lib.Seq.{get_or-append-add, drop-drop}
use Rattle.rules.specs.Bytes.{table, parts, end_to_end}

module _ {ℓ} {A : Type ℓ} where
  pub get_or-table : (n from : ℕ) (f : ℕ → A) (i : ℕ) (d : A) → i < n → get_or (table n from f) i d ≡ f (from + i)
  unfolding table
  get_or-table zero from f i d h = absurd (omega arith)
  get_or-table (suc n) from f zero d h = rw (add-zero from)
  get_or-table (suc n) from f (suc i) d h =
      let e : suc from + i ≡ from + suc i = omega arith in
      get_or-table n (suc from) f i d (omega arith) ∙ ap f e

  -- tables of equal entries are equal
  pub same-table : (n from : ℕ) (f g : ℕ → A) → ((i : ℕ) → i < from + n → f i ≡ g i) → table n from f ≡ table n from g
  unfolding table
  same-table zero from f g e = refl
  same-table (suc n) from f g e = cc (e from (omega arith), same-table n (suc from) f g (λ i h. e i (omega arith)))

  -- n parts, and part i of them
  pub parts-length : (n m : ℕ) (s : List A) → length (parts n m s) ≡ n
  unfolding parts
  parts-length zero m s = refl
  parts-length (suc n) m s = ap suc (parts-length n m (drop m s))

  pub part_at : (n m i : ℕ) (s : List A) → i < n → get_or (parts n m s) i [] ≡ take m (drop (i * m) s)
  unfolding parts
  part_at zero m i s h = absurd (omega arith)
  part_at (suc n) m zero s h = rw (zero-mul m)
  part_at (suc n) m (suc i) s h =
      let e : m + i * m ≡ suc i * m = omega (arith, suc-mul i m) in
      part_at n m i (drop m s) (omega arith) ∙ ap (take m) (drop-drop (i * m) m s ∙ ap (λ (k : ℕ). drop k s) e)

  -- n lines of m each, joined: column c of line r stands at r × m + c
  pub get_or-lines : (n from m : ℕ) (f : ℕ → List A) (r c : ℕ) (d : A) → ((i : ℕ) → length (f i) ≡ m) → r < n →
      c < m →
      get_or (end_to_end (table n from f)) (r * m + c) d ≡ get_or (f (from + r)) c d
  unfolding table end_to_end
  get_or-lines zero from m f r c d e h k = absurd (omega arith)
  get_or-lines (suc n) from m f zero c d e h k =
      rw (zero-mul m, add-zero from, zero-add c)
      (get_or-append (f from) (end_to_end (table n (suc from) f)) d c (omega (arith, e from)))
  get_or-lines (suc n) from m f (suc r) c d e h k =
      let size : length (f from) ≡ m = e from in
      let here : suc r * m + c ≡ length (f from) + (r * m + c) = omega (arith, suc-mul r m) in
      let next : suc from + r ≡ from + suc r = omega arith in
      ap (λ (i : ℕ). get_or (f from ++ end_to_end (table n (suc from) f)) i d) here
      ∙ get_or-append-add (f from) (end_to_end (table n (suc from) f)) (r * m + c) d
      ∙ get_or-lines n (suc from) m f r c d e (omega arith) k
      ∙ ap (λ (i : ℕ). get_or (f i) c d) next

-- what stands at a place of a mapped list
pub get_or-mapped {ℓ ℓ'} : {A : Type ℓ} {B : Type ℓ'} (f : A → B) (xs : List A) (j : ℕ) (d : A) (e : B) →
    j < length xs →
    get_or (map f xs) j e ≡ f (get_or xs j d)
get_or-mapped f [] j d e h = absurd (omega arith)
get_or-mapped f (x ∷ xs) zero d e h = refl
get_or-mapped f (x ∷ xs) (suc j) d e h = get_or-mapped f xs j d e (omega arith)
