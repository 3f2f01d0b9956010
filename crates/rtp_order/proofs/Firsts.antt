-- Of rows in order, those of new places are the first rows of each place, in order.
use Rattle.std.proofs.Common.{◌≡◌, ℕ, suc, ◌+◌, ◌-◌, ◌*◌, ◌<◌, ◌≤◌, Bool, true, false, not, eqb, ltb, List, [], ◌∷◌}
use Rattle.std.proofs.Common.{length, sym, refl, ap, ◌∙◌, arith, ltb-false, eq-eqb, ne_eqb, eqb-true}
use borrow.Author.Tests.{eqb-false}
use Rattle.rules.specs.Bytes.{pick, only, All, empty, and}
use Rattle.rules.specs.Cuts.{insert, sorted}
use Rattle.rules.specs.Rtp.{wrapped, moved, origin, places_after, places, row_at, place_of, rows_from, firsts}
use Rattle.rules.specs.Rtp.{ordered}
use Rattle.rtp_order.specs.Order.{Rises, nothing, before, new_places}
use Rattle.rtp_order.proofs.Order.{Side, low, high, side, insert-low, insert-high, insert-front, all-sorted}
use Rattle.rtp_order.proofs.Order.{all_above, rises_sorted}

-- rows of another place than x's
abbrev other : ℕ → ℕ → Bool
other x y = not (eqb (place_of y) (place_of x))

-- y came behind x, if both have one place
abbrev Later : ℕ → ℕ → Type 0
Later x y = place_of y ≡ place_of x → x < y

-- two numbers are equal or not
data Same (a b : ℕ) : Type 0 where
  same : a ≡ b → Same a b
  different : (a ≡ b → ⊥) → Same a b

same? : (a b : ℕ) → Same a b
same? a b = go (eqb a b) refl
  where
    go : (t : Bool) → eqb a b ≡ t → Same a b
    go true e = same (eqb-true a b e)
    go false e = different (eqb-false a b e)

-- ---- those that pass a test, in order

module _ (t : ℕ → Bool) where
  all-only : {P : ℕ → Type 0} (l : List ℕ) → All P l → All P (only t l)
  unfolding only
  all-only [] empty = empty
  all-only {P} (z ∷ l) (and h hs) = go (t z) (all-only l hs)
    where
      go : (b : Bool) → All P (only t l) → All P (pick b (z ∷ only t l) (only t l))
      go true m = and h m
      go false m = m

  only_yes : (z : ℕ) (l : List ℕ) → t z ≡ true → only t (z ∷ l) ≡ z ∷ only t l
  unfolding only
  only_yes z l e = rw e

  only_no : (z : ℕ) (l : List ℕ) → t z ≡ false → only t (z ∷ l) ≡ only t l
  unfolding only
  only_no z l e = rw e

  insert-no : (x : ℕ) (l : List ℕ) → t x ≡ false → only t (insert x l) ≡ only t l
  unfolding insert only
  insert-no x [] e = only_no x [] e
  insert-no x (z ∷ l) e = go (side x z) (t z) refl (insert-no x l e)
    where
      go : Side x z → (b : Bool) → t z ≡ b → only t (insert x l) ≡ only t l →
          only t (insert x (z ∷ l)) ≡ only t (z ∷ l)
      go (low h) b d i = rw (insert-low x z l h) (only_no x (z ∷ l) e)
      go (high h) true d i = rw (insert-high x z l h, d, i)
      go (high h) false d i = rw (insert-high x z l h, d, i)

  insert-yes : (x : ℕ) (l : List ℕ) → Rises l → t x ≡ true → only t (insert x l) ≡ insert x (only t l)
  unfolding insert only
  insert-yes x [] nothing e = only_yes x [] e
  insert-yes x (z ∷ l) (before k r) e = go (side x z) (t z) refl (insert-yes x l r e)
    where
      go : Side x z → (b : Bool) → t z ≡ b → only t (insert x l) ≡ insert x (only t l) →
          only t (insert x (z ∷ l)) ≡ insert x (only t (z ∷ l))
      go (low h) b d i =
          rw (insert-low x z l h) (only_yes x (z ∷ l) e
          ∙ sym (insert-front x (only t (z ∷ l)) (all-only (z ∷ l) (and h (all_above x z l h k)))))
      go (high h) true d i = rw (insert-high x z l h, d, i) (sym (insert-high x z (only t l) h))
      go (high h) false d i = rw (insert-high x z l h, d, i)

  only-sorted : (l : List ℕ) → sorted (only t l) ≡ only t (sorted l)
  unfolding sorted only
  only-sorted [] = refl
  only-sorted (x ∷ l) = go (t x) refl (only-sorted l)
    where
      go : (b : Bool) → t x ≡ b → sorted (only t l) ≡ only t (sorted l) →
          sorted (only t (x ∷ l)) ≡ only t (insert x (sorted l))
      go true d i = rw (only_yes x l d) (ap (insert x) i ∙ sym (insert-yes x (sorted l) (rises_sorted l) d))
      go false d i = rw (only_no x l d) (i ∙ sym (insert-no x (sorted l) d))

-- ---- new places

new-same : (p z : ℕ) (l : List ℕ) → place_of z ≡ p → new_places p (z ∷ l) ≡ new_places p l
unfolding new_places
new-same p z l e = rw (eq-eqb (place_of z) p e)

new-other : (p z : ℕ) (l : List ℕ) → (place_of z ≡ p → ⊥) → new_places p (z ∷ l) ≡ z ∷ new_places (place_of z) l
unfolding new_places
new-other p z l e = rw (ne_eqb (place_of z) p e)

-- of rows in order from z on, at place p or above, each new one is above
above : (p z : ℕ) (l : List ℕ) → p ≤ place_of z → All (λ (y : ℕ). z ≤ y) l → All (λ (y : ℕ). p ≤ place_of y) l
above p z [] h empty = empty
above p z (y ∷ l) h (and k ks) = and {x = y} (omega arith) (above p z l h ks)

higher : (p a : ℕ) (m : List ℕ) → p ≤ a → All (λ (y : ℕ). a < place_of y) m → All (λ (y : ℕ). p < place_of y) m
higher p a [] g empty = empty
higher p a (y ∷ m) g (and f fs) = and {x = y} (omega arith) (higher p a m g fs)

new-above : (p : ℕ) (l : List ℕ) → Rises l → All (λ (y : ℕ). p ≤ place_of y) l →
    All (λ (y : ℕ). p < place_of y) (new_places p l)
unfolding new_places
new-above p [] nothing empty = empty
new-above p (z ∷ l) (before k r) (and h hs) =
    go (same? (place_of z) p) (new-above p l r hs)
    (new-above (place_of z) l r (above (place_of z) z l (omega arith) k))
  where
    go : Same (place_of z) p → All (λ (y : ℕ). p < place_of y) (new_places p l) →
        All (λ (y : ℕ). place_of z < place_of y) (new_places (place_of z) l) →
        All (λ (y : ℕ). p < place_of y) (new_places p (z ∷ l))
    go (same e) m n = rw (new-same p z l e) m
    go (different e) m n =
        rw (new-other p z l e) (and {x = z} (omega arith) (higher p (place_of z) (new_places (place_of z) l) h n))

-- none of these has x's place
keeps : (x : ℕ) (m : List ℕ) → All (λ (y : ℕ). place_of x < place_of y) m → only (other x) m ≡ m
unfolding only
keeps x [] empty = refl
keeps x (y ∷ m) (and h hs) =
    only_yes (other x) y m (rw (ne_eqb (place_of y) (place_of x) (λ e. omega arith)))
    ∙ ap (λ (l : List ℕ). y ∷ l) (keeps x m hs)

-- each new one is one of them
pub all_new : {P : ℕ → Type 0} (p : ℕ) (l : List ℕ) → All P l → All P (new_places p l)
unfolding new_places
all_new p [] empty = empty
all_new {P} p (z ∷ l) (and h hs) = go (eqb (place_of z) p) (all_new p l hs) (all_new (place_of z) l hs)
  where
    go : (b : Bool) → All P (new_places p l) → All P (new_places (place_of z) l) →
        All P (pick b (new_places p l) (z ∷ new_places (place_of z) l))
    go true m n = m
    go false m n = and h n

-- ---- a row more, which came before all others

module _ (x p : ℕ) (g : p < place_of x) where
  -- of the rows from x on its place's go
  rest-new : (l : List ℕ) → Rises l → All (λ (y : ℕ). x ≤ y) l →
      only (other x) (new_places p l) ≡ new_places (place_of x) l
  unfolding new_places only
  rest-new [] nothing empty = refl
  rest-new (w ∷ l) (before k r) (and h hs) =
      new-other-only (same? (place_of w) (place_of x)) (above (place_of x) w l (omega arith) k)
      (above (place_of w) w l (omega arith) k)
    where
      new-other-only : Same (place_of w) (place_of x) → All (λ (y : ℕ). place_of x ≤ place_of y) l →
          All (λ (y : ℕ). place_of w ≤ place_of y) l →
          only (other x) (new_places p (w ∷ l)) ≡ new_places (place_of x) (w ∷ l)
      new-other-only (same e) a b =
          rw (
            new-other p w l (λ d. omega arith),
            new-same (place_of x) w l e,
            only_no (other x) w
                (new_places (place_of w) l) (rw (eq-eqb (place_of w) (place_of x) e)),
            e,
          )
          (keeps x (new_places (place_of x) l) (new-above (place_of x) l r a))
      new-other-only (different e) a b =
          rw (
            new-other p w l (λ d. omega arith),
            new-other (place_of x) w l e,
            only_yes (other x) w
                (new_places (place_of w) l) (rw (ne_eqb (place_of w) (place_of x) e)),
          )
          (ap (λ (m : List ℕ). w ∷ m) (keeps x (new_places (place_of w) l)
          (higher (place_of x) (place_of w) (new_places (place_of w) l) (omega arith)
          (new-above (place_of w) l r b))))

  front : (l : List ℕ) → Rises l → All (λ (y : ℕ). x ≤ y) l →
      x ∷ new_places (place_of x) l ≡ insert x (only (other x) (new_places p l))
  front l r h =
      sym (insert-front x (only (other x) (new_places p l)) (all-only (other x) (new_places p l) (all_new p l h))
      ∙ ap (λ (m : List ℕ). x ∷ m) (rest-new l r h))

new-insert : (x p : ℕ) (l : List ℕ) → Rises l → All (Later x) l → p < place_of x →
    new_places p (insert x l) ≡ insert x (only (other x) (new_places p l))
unfolding new_places only insert
new-insert x p [] nothing empty g = new-other p x [] (λ d. omega arith)
new-insert x p (w ∷ l) (before k r) (and h hs) g =
    go (side x w) (same? (place_of w) p) (new-insert x p l r hs g) (λ f. new-insert x (place_of w) l r hs f)
  where
    go : Side x w → Same (place_of w) p → new_places p (insert x l) ≡ insert x (only (other x) (new_places p l)) →
        (place_of w < place_of x → new_places (place_of w) (insert x l)
        ≡ insert x (only (other x) (new_places (place_of w) l))) →
        new_places p (insert x (w ∷ l)) ≡ insert x (only (other x) (new_places p (w ∷ l)))
    go (low a) b m n =
        rw (insert-low x w l a) (new-other p x (w ∷ l) (λ d. omega arith)
        ∙ front x p g (w ∷ l) (before k r) (and a (all_above x w l a k)))
    go (high a) (same e) m n = rw (insert-high x w l a, new-same p w (insert x l) e, new-same p w l e) m
    go (high a) (different e) m n =
        let apart : place_of w ≡ place_of x → ⊥ = λ d. omega (arith, h d) in
        let below : place_of w < place_of x = strict (side (place_of x) (place_of w)) apart in
        rw (
          insert-high x w l a,
          new-other p w (insert x l) e,
          new-other p w l e,
          only_yes (other x) w (new_places (place_of w) l) (rw (ne_eqb (place_of w) (place_of x) apart)),
          insert-high x w (only (other x) (new_places (place_of w) l)) a,
        ) (ap (λ (q : List ℕ). w ∷ q) (n below))
      where
        strict : Side (place_of x) (place_of w) → (place_of w ≡ place_of x → ⊥) → place_of w < place_of x
        strict (high c) d = c
        strict (low c) d = absurd (d (omega arith))

-- ---- the law

-- rows as they arrived: none at place 0, and at one place the later has the greater number
data Arrived : List ℕ → Type 0 where
  none : Arrived []
  one : {x : ℕ} {xs : List ℕ} → 0 < place_of x → All (Later x) xs → Arrived xs → Arrived (x ∷ xs)

new-firsts : (rs : List ℕ) → Arrived rs → new_places 0 (sorted rs) ≡ sorted (firsts rs)
unfolding new_places sorted firsts
new-firsts [] none = refl
new-firsts (x ∷ xs) (one g h a) =
    new-insert x 0 (sorted xs) (rises_sorted xs) (all-sorted xs h) g
    ∙ ap (insert x) (ap (only (other x)) (new-firsts xs a) ∙ sym (only-sorted (other x) (firsts xs)))

later_rows : (p i j : ℕ) (ps : List ℕ) → i < j → j + length ps ≤ 4096 → All (Later (row_at p i)) (rows_from j ps)
unfolding rows_from
later_rows p i j [] h k = empty
later_rows p i j (q ∷ ps) h k =
    and {x = row_at q j} (λ e. omega arith) (later_rows p i (j + 1) ps (omega arith) (omega arith))

rows-arrived : (i : ℕ) (ps : List ℕ) → i + length ps ≤ 4096 → All (λ (p : ℕ). 0 < p) ps → Arrived (rows_from i ps)
unfolding rows_from
rows-arrived i [] h empty = none
rows-arrived i (p ∷ ps) h (and k ks) =
    one {x = row_at p i} (omega arith) (later_rows p i (i + 1) ps (omega arith) (omega arith))
    (rows-arrived (i + 1) ps (omega arith) ks)

-- a step goes at most 32,768 down
pub moved-low : (place d n : ℕ) → d < 65536 → 32768 + n ≤ place → n ≤ moved place d
moved-low place d n h k = go (ltb d 32768) refl
  where
    go : (t : Bool) → ltb d 32768 ≡ t → n ≤ pick t (place + d) (place - (65536 - d))
    go true e = omega arith
    go false e = omega (arith, ltb-false d 32768 e)

places-after : (place b : ℕ) (ss : List ℕ) → 32768 * length ss < place →
    All (λ (p : ℕ). 0 < p) (places_after place b ss)
unfolding places_after
places-after place b [] h = empty
places-after place b (s ∷ ss) h =
    let down : 32768 * length ss + 1 ≤ moved place (wrapped s b) =
    moved-low place (wrapped s b) (32768 * length ss + 1) (omega arith) (omega arith) in
    and {x = moved place (wrapped s b)} (omega arith) (places-after (moved place (wrapped s b)) s ss (omega arith))

places-some : (s : List ℕ) → length s ≤ 4096 → All (λ (p : ℕ). 0 < p) (places s)
unfolding places
places-some [] h = empty
places-some (s ∷ ss) h = and {x = origin + s} (omega arith) (places-after (origin + s) s ss (omega arith))

length-places_after : (place b : ℕ) (ss : List ℕ) → length (places_after place b ss) ≡ length ss
unfolding places_after
length-places_after place b [] = refl
length-places_after place b (s ∷ ss) = ap suc (length-places_after (moved place (wrapped s b)) s ss)

pub length-places : (s : List ℕ) → length (places s) ≡ length s
unfolding places
length-places [] = refl
length-places (s ∷ ss) = ap suc (length-places_after (origin + s) s ss)

-- the rows in order, without those of a place that stood before, are the rows that stay, in their order
pub new-ordered : (s : List ℕ) → length s ≤ 4096 → new_places 0 (sorted (rows_from 0 (places s))) ≡ ordered s
unfolding ordered
new-ordered s h =
    new-firsts (rows_from 0 (places s)) (rows-arrived 0 (places s) (omega (arith, length-places s)) (places-some s h))
