-- A picture more.
use Prim.Native.Nat.{ℕ, zero, suc, ◌+◌, ◌-◌, ◌*◌, ◌/◌, ◌%◌, ◌^◌, ◌≤◌, ◌<◌}
use native.Mathlib.Omega.{arith}
use native.Mathlib.Nat.{suc-mul, pow-le-pow_right, pow-suc, zero-div, div-one, lt_of_not-le, mul_comm}
use native.Mathlib.Nat.{div-eq_of_lt-le}
use native.Mathlib.Nat.{div-div-eq-div-mul, add-mul}
use native.Mathlib.Decide.{dec_le}
use mathlib.Core.Path.{◌≡◌, refl, sym, ap, ◌∙◌}
use mathlib.Core.List.{List, [], ◌∷◌, ◌++◌, map}
use mathlib.Core.Bool.{Bool, true, false, not}
use lib.ListN.{length, get_or, take, drop, length-append, length-drop, length-take, get_or-append}
use lib.ListN.{get_or-eq_default}
use lib.Seq.{get_or-take, get_or-drop, take_all, take-append-le, drop-append-le, get_or-append_seam}
use borrow.Author.Tests.{le-leb, lt-leb, lt-ltb, le-ltb}
use Rattle.rules.specs.declared.Opening.{Opening}
use Rattle.rules.specs.Bytes.{pick, smaller, count, parts}
use Rattle.rules.specs.Opening.{opening_fault}
use Rattle.rules.specs.Refusals.{none}
use Rattle.rules.specs.Pictures.{picture_size, picture_count, pictures, pixels}
use Rattle.rules.specs.Cuts.{at, least_of_six, cut_score}
use Rattle.rules.specs.Changes.{same, change, repeats, repeats_after, changes, changes_after}
use Rattle.rules.specs.Seal.{reduced}
use Rattle.rules.proofs.Laws.Lists.{count-append, by-test}
use Rattle.luma_laws.specs.Past.{last_from, previous, next_change, next_repeat, next_score, ones, map_word}

-- ---- lists of one more

module _ {A : Type 0} where
  pub get_or-last : (xs : List A) (y d : A) → get_or (xs ++ y ∷ []) (length xs) d ≡ y
  get_or-last xs y d = get_or-append_seam xs y [] d

  pub get_or-other : (xs : List A) (y d : A) (i : ℕ) → (i ≡ length xs → ⊥) → get_or (xs ++ y ∷ []) i d ≡ get_or xs i d
  get_or-other xs y d i h = elim (dec_le (length xs) i) [
    | yes k ↦
        let far : length (xs ++ y ∷ []) ≤ i = simp length-append (omega arith) in
        get_or-eq_default (xs ++ y ∷ []) d far ∙ sym (get_or-eq_default xs d k)
    | no k ↦ get_or-append xs (y ∷ []) d i (lt_of_not-le k)
  ]

-- ---- the parts of a string that goes on

pub parts-append : (n m : ℕ) (s t : List ℕ) → length s ≡ n * m → parts n m (s ++ t) ≡ parts n m s
unfolding parts
parts-append zero m s t e = refl
parts-append (suc n) m s t e =
    let k = suc-mul n m in
    rw (take-append-le m s t (omega arith), drop-append-le m s t (omega arith))
    (ap (λ (x : List (List ℕ)). take m s ∷ x) (parts-append n m (drop m s) t (simp length-drop (omega arith))))

pub parts_more : (n m : ℕ) (s t : List ℕ) → length s ≡ n * m → length t ≡ m →
    parts (suc n) m (s ++ t) ≡ parts n m s ++ t ∷ []
unfolding parts
parts_more zero m [] t e k = rw (take_all m t (omega arith))
parts_more zero m (x ∷ s) t e k = absurd (omega arith)
parts_more (suc n) m s t e k =
    let z = suc-mul n m in
    rw (take-append-le m s t (omega arith), drop-append-le m s t (omega arith))
    (ap (λ (x : List (List ℕ)). take m s ∷ x) (parts_more n m (drop m s) t (simp length-drop (omega arith)) k))

-- ---- the whole pictures of a string of whole pictures and a rest

pub count-whole : (o : Opening) (n : ℕ) (whole cur : List ℕ) → opening_fault o ≡ none →
    length whole ≡ n * picture_size o → length cur < picture_size o → n ≤ 750 →
    picture_count o (whole ++ cur) ≡ n
unfolding picture_count
count-whole o n whole cur f e k h =
    let some : n * picture_size o ≤ length (whole ++ cur) = simp length-append (omega arith) in
    let z = add-mul n 1 (picture_size o) in
    let few : length (whole ++ cur) < (n + 1) * picture_size o = simp length-append (omega arith) in
    let q : length (whole ++ cur) / picture_size o ≡ n = div-eq_of_lt-le {k = n} (picture_size o) some few in
    rw (f, q) (least n h)
  where
    least : (n : ℕ) → n ≤ 750 → smaller 750 n ≡ n
    least n h = elim (dec_le 750 n) [
      | yes k ↦ rw (le-leb 750 n k) (omega arith)
      | no k ↦ rw (lt-leb 750 n (lt_of_not-le k))
    ]

pub reduced-whole : (o : Opening) (n : ℕ) (whole cur : List ℕ) → opening_fault o ≡ none →
    length whole ≡ n * picture_size o → length cur < picture_size o → n ≤ 750 →
    reduced o (whole ++ cur) ≡ map (pixels o) (parts n (picture_size o) whole)
unfolding reduced pictures
reduced-whole o n whole cur f e k h =
    rw (count-whole o n whole cur f e k h, parts-append n (picture_size o) whole cur e)

module _ {A B : Type 0} where
  pub map-append : (f : A → B) (xs ys : List A) → map f (xs ++ ys) ≡ map f xs ++ map f ys
  map-append f [] ys = refl
  map-append f (x ∷ xs) ys = ap (λ (z : List B). f x ∷ z) (map-append f xs ys)

pub reduced-more : (o : Opening) (n : ℕ) (whole cur : List ℕ) → length whole ≡ n * picture_size o →
    length cur ≡ picture_size o →
    map (pixels o) (parts (n + 1) (picture_size o) (whole ++ cur))
    ≡ map (pixels o) (parts n (picture_size o) whole) ++ pixels o cur ∷ []
reduced-more o n whole cur e k =
    let s : n + 1 ≡ suc n = omega arith in
    rw (s, parts_more n (picture_size o) whole cur e k)
    (map-append (pixels o) (parts n (picture_size o) whole) (cur ∷ []))

-- ---- cut scores

-- those that are settled, and those that are not yet, stay as they are
pub score-other : (hs : List (List (List ℕ))) (x : List (List ℕ)) (i : ℕ) → (2 ≤ i → i + 2 ≡ length hs → ⊥) →
    cut_score (hs ++ x ∷ []) i ≡ cut_score hs i
unfolding cut_score
score-other hs x i h = go (dec_le 2 i) (dec_le (i + 3) (length hs))
  where
    more : length (hs ++ x ∷ []) ≡ length hs + 1
    more = length-append hs (x ∷ [])

    go : Dec (2 ≤ i) → Dec (i + 3 ≤ length hs) → cut_score (hs ++ x ∷ []) i ≡ cut_score hs i
    go (no g) d = rw (lt-leb 2 i (lt_of_not-le g))
    go (yes g) (yes d) =
        rw (
          le-leb 2 i g,
          lt-ltb (i + 2) (length (hs ++ x ∷ [])) (omega (arith, more)),
          lt-ltb (i + 2) (length hs) (omega arith),
          get_or-append hs (x ∷ []) [] (i - 2) (omega arith),
          get_or-append hs (x ∷ []) [] (i - 1) (omega arith),
          get_or-append hs (x ∷ []) [] i (omega arith),
          get_or-append hs (x ∷ []) [] (i + 1) (omega arith),
          get_or-append hs (x ∷ []) [] (i + 2) (omega arith),
        )
    go (yes g) (no d) =
        let far : length hs < i + 2 = omega (arith, lt_of_not-le d, h g) in
        rw (
          le-leb 2 i g,
          le-ltb (i + 2) (length (hs ++ x ∷ [])) (omega (arith, more)),
          le-ltb (i + 2) (length hs) (omega arith),
        )

-- the one that a picture more settles
score-six : (hs : List (List (List ℕ))) (x : List (List ℕ)) (i : ℕ) → 2 ≤ i → i + 2 ≡ length hs →
    cut_score (hs ++ x ∷ []) i ≡ least_of_six (at hs (i - 2)) (at hs (i - 1)) (at hs i) (at hs (i + 1)) x
unfolding cut_score
score-six hs x i g e =
    let more : length (hs ++ x ∷ []) ≡ length hs + 1 = length-append hs (x ∷ []) in
    rw (
      le-leb 2 i g,
      lt-ltb (i + 2) (length (hs ++ x ∷ [])) (omega arith),
      get_or-append hs (x ∷ []) [] (i - 2) (omega arith),
      get_or-append hs (x ∷ []) [] (i - 1) (omega arith),
      get_or-append hs (x ∷ []) [] i (omega arith),
      get_or-append hs (x ∷ []) [] (i + 1) (omega arith),
      e,
      get_or-last hs x [],
    )

next-six : (hs : List (List (List ℕ))) (x : List (List ℕ)) (i : ℕ) → 2 ≤ i → i + 2 ≡ length hs →
    next_score hs x ≡ least_of_six (at hs (i - 2)) (at hs (i - 1)) (at hs i) (at hs (i + 1)) x
unfolding next_score
next-six hs x i g e =
    let a : length hs - 4 ≡ i - 2 = omega arith in
    let b : length hs - 3 ≡ i - 1 = omega arith in
    let c : length hs - 2 ≡ i = omega arith in
    let d : length hs - 1 ≡ i + 1 = omega arith in
    rw (le-leb 4 (length hs) (omega arith), a, b, c, d)

score-none : (hs : List (List (List ℕ))) (i : ℕ) → i < 2 → cut_score hs i ≡ 0
unfolding cut_score
score-none hs i h = rw (lt-leb 2 i h)

pub next-some : (hs : List (List (List ℕ))) (x : List (List ℕ)) → 4 ≤ length hs →
    next_score hs x
    ≡ least_of_six (at hs (length hs - 4)) (at hs (length hs - 3)) (at hs (length hs - 2)) (at hs (length hs - 1)) x
unfolding next_score
next-some hs x h = rw (le-leb 4 (length hs) h)

pub next-none : (hs : List (List (List ℕ))) (x : List (List ℕ)) → length hs < 4 → next_score hs x ≡ 0
unfolding next_score
next-none hs x h = rw (lt-leb 4 (length hs) h)

pub score-next : (hs : List (List (List ℕ))) (x : List (List ℕ)) (i : ℕ) → i + 2 ≡ length hs →
    cut_score (hs ++ x ∷ []) i ≡ next_score hs x
score-next hs x i e = elim (dec_le 2 i) [
  | no g ↦ score-none (hs ++ x ∷ []) i (lt_of_not-le g) ∙ sym (next-none hs x (omega (arith, lt_of_not-le g)))
  | yes g ↦ score-six hs x i g e ∙ sym (next-six hs x i g e)
]

-- ---- repeats and changes

after_last : (b : List ℕ) (pxs : List (List ℕ)) (px : List ℕ) → last_from b (pxs ++ px ∷ []) ≡ px
unfolding last_from
after_last b [] px = refl
after_last b (p ∷ pxs) px = after_last p pxs px

pub previous-more : (pxs : List (List ℕ)) (px : List ℕ) → previous (pxs ++ px ∷ []) ≡ px
unfolding previous
previous-more pxs px = after_last [] pxs px

at_last : (b : List ℕ) (pxs : List (List ℕ)) → last_from b pxs ≡ get_or (b ∷ pxs) (length pxs) []
unfolding last_from
at_last b [] = refl
at_last b (p ∷ pxs) = at_last p pxs

pub previous-at : (pxs : List (List ℕ)) → 0 < length pxs → previous pxs ≡ get_or pxs (length pxs - 1) []
unfolding previous last_from
previous-at [] h = absurd (omega arith)
previous-at (p ∷ pxs) h = let e : suc (length pxs) - 1 ≡ length pxs = omega arith in rw e (at_last p pxs)

repeats-after : (b : List ℕ) (pxs : List (List ℕ)) (px : List ℕ) →
    repeats_after b (pxs ++ px ∷ []) ≡ repeats_after b pxs ++ same (last_from b pxs) px ∷ []
unfolding repeats_after last_from
repeats-after b [] px = refl
repeats-after b (p ∷ pxs) px = ap (λ (x : List Bool). same b p ∷ x) (repeats-after p pxs px)

changes-after : (rounds : Bool) (b : List ℕ) (pxs : List (List ℕ)) (px : List ℕ) →
    changes_after rounds b (pxs ++ px ∷ []) ≡ changes_after rounds b pxs ++ change rounds (last_from b pxs) px ∷ []
unfolding changes_after last_from
changes-after rounds b [] px = refl
changes-after rounds b (p ∷ pxs) px = ap (λ (x : List ℕ). change rounds b p ∷ x) (changes-after rounds p pxs px)

pub repeats-more : (pxs : List (List ℕ)) (px : List ℕ) →
    repeats (pxs ++ px ∷ []) ≡ repeats pxs ++ next_repeat pxs px ∷ []
unfolding repeats repeats_after next_repeat previous last_from
repeats-more [] px = refl
repeats-more (p ∷ pxs) px = ap (λ (x : List Bool). false ∷ x) (repeats-after p pxs px)

pub changes-more : (rounds : Bool) (pxs : List (List ℕ)) (px : List ℕ) →
    changes rounds (pxs ++ px ∷ []) ≡ changes rounds pxs ++ next_change rounds pxs px ∷ []
unfolding changes changes_after next_change previous last_from
changes-more rounds [] px = refl
changes-more rounds (p ∷ pxs) px = ap (λ (x : List ℕ). 0 ∷ x) (changes-after rounds p pxs px)

length-repeats-after : (b : List ℕ) (pxs : List (List ℕ)) → length (repeats_after b pxs) ≡ length pxs
unfolding repeats_after
length-repeats-after b [] = refl
length-repeats-after b (p ∷ pxs) = ap suc (length-repeats-after p pxs)

length-changes-after : (rounds : Bool) (b : List ℕ) (pxs : List (List ℕ)) →
    length (changes_after rounds b pxs) ≡ length pxs
unfolding changes_after
length-changes-after rounds b [] = refl
length-changes-after rounds b (p ∷ pxs) = ap suc (length-changes-after rounds p pxs)

pub length-repeats : (pxs : List (List ℕ)) → length (repeats pxs) ≡ length pxs
unfolding repeats
length-repeats [] = refl
length-repeats (p ∷ pxs) = ap suc (length-repeats-after p pxs)

pub length-changes : (rounds : Bool) (pxs : List (List ℕ)) → length (changes rounds pxs) ≡ length pxs
unfolding changes
length-changes rounds [] = refl
length-changes rounds (p ∷ pxs) = ap suc (length-changes-after rounds p pxs)

-- pictures that are not repeated
pub fresh-more : (pxs : List (List ℕ)) (px : List ℕ) →
    count not (repeats (pxs ++ px ∷ [])) ≡ count not (repeats pxs) + pick (next_repeat pxs px) 0 1
unfolding count
fresh-more pxs px =
    rw (repeats-more pxs px, count-append not (repeats pxs) (next_repeat pxs px ∷ [])) (ap (λ (x : ℕ). count not
    (repeats pxs) + x) (by-test (λ (b : Bool). pick (not b) 1 0 + 0 ≡ pick b 0 1) (next_repeat pxs px) (λ e. refl)
    (λ e.
    refl)))

-- ---- a map of bits

ones-more : (bs : List Bool) (b : Bool) → ones (bs ++ b ∷ []) ≡ ones bs + 2 ^ length bs * pick b 1 0
unfolding ones
ones-more [] true = refl
ones-more [] false = refl
ones-more (c ∷ bs) b =
    let k = ones-more bs b in
    let e : 2 ^ suc (length bs) * pick b 1 0 ≡ 2 * (2 ^ length bs * pick b 1 0) =
    rw (pow-suc 2 (length bs)) (double (2 ^ length bs) (pick b 1 0)) in
    omega arith
  where
    double : (x y : ℕ) → x * 2 * y ≡ 2 * (x * y)
    double x y = rw (mul_comm x 2) (native.Mathlib.Nat.mul_assoc 2 x y)

-- a bit more: the word that it stands in grows by its power
pub word_more : (bs : List Bool) (b : Bool) →
    map_word (bs ++ b ∷ []) (length bs / 64) ≡ map_word bs (length bs / 64) + 2 ^ (length bs % 64) * pick b 1 0
unfolding map_word
word_more bs b =
    let j = length bs / 64 in
    let d : length (drop (64 * j) bs) ≡ length bs % 64 = length-drop (64 * j) bs ∙ omega arith in
    let few : length (drop (64 * j) bs) ≤ 64 = omega arith in
    let few2 : length (drop (64 * j) bs ++ b ∷ []) ≤ 64 = simp length-append (omega arith) in
    rw (
      drop-append-le (64 * j) bs (b ∷ []) (omega arith),
      take_all 64 (drop (64 * j) bs ++ b ∷ []) few2,
      take_all 64 (drop (64 * j) bs) few,
      ← d,
    ) (ones-more (drop (64 * j) bs) b)

-- the other words stay
pub word-other : (bs : List Bool) (b : Bool) (j : ℕ) → (j ≡ length bs / 64 → ⊥) →
    map_word (bs ++ b ∷ []) j ≡ map_word bs j
unfolding map_word
word-other bs b j h = elim (dec_le (64 * j) (length bs)) [
  | yes k ↦
      let full : 64 ≤ length (drop (64 * j) bs) = simp length-drop (omega (arith, h)) in
      rw (drop-append-le (64 * j) bs (b ∷ []) k, take-append-le 64 (drop (64 * j) bs) (b ∷ []) full)
  | no k ↦
      let far : length (bs ++ b ∷ []) ≤ 64 * j = simp length-append (omega (arith, lt_of_not-le k)) in
      rw (
        lib.ListN.drop_of_length-le (bs ++ b ∷ []) {i = 64 * j} far,
        lib.ListN.drop_of_length-le bs {i = 64 * j} (omega (arith, lt_of_not-le k)),
      )
]

-- ---- reading the map

ones_bit : (bs : List Bool) (k : ℕ) → ones bs / 2 ^ k % 2 ≡ pick (get_or bs k false) 1 0
unfolding ones
ones_bit [] k = rw (zero-div (2 ^ k))
ones_bit (true ∷ bs) zero = rw div-one (omega arith)
ones_bit (false ∷ bs) zero = rw div-one (omega arith)
ones_bit (b ∷ bs) (suc k) =
    let x = pick b 1 0 + 2 * ones bs in
    let half : x / 2 ≡ ones bs = drops b (ones bs) in
    rw (pow-suc 2 k, mul_comm (2 ^ k) 2, ← div-div-eq-div-mul x 2 (2 ^ k), half) (ones_bit bs k)
  where
    drops : (b : Bool) (y : ℕ) → (pick b 1 0 + 2 * y) / 2 ≡ y
    drops true y = omega arith
    drops false y = omega arith

-- bit i % 64 of word i / 64 is element i
pub word-bit : (bs : List Bool) (i : ℕ) → map_word bs (i / 64) / 2 ^ (i % 64) % 2 ≡ pick (get_or bs i false) 1 0
unfolding map_word
word-bit bs i =
    let j = i / 64 in
    let k = i % 64 in
    let here : 64 * j + k ≡ i = omega arith in
    let same : get_or (take 64 (drop (64 * j) bs)) k false ≡ get_or bs i false =
    get_or-take 64 (drop (64 * j) bs) k false (omega arith) ∙ get_or-drop (64 * j) bs k false
    ∙ ap (λ (x : ℕ). get_or bs x false) here in
    ones_bit (take 64 (drop (64 * j) bs)) k ∙ ap (λ (b : Bool). pick b 1 0) same

-- a word is one
ones_small : (bs : List Bool) → ones bs < 2 ^ length bs
unfolding ones
ones_small [] = omega arith
ones_small (b ∷ bs) = go b (ones_small bs)
  where
    go : (c : Bool) → ones bs < 2 ^ length bs → pick c 1 0 + 2 * ones bs < 2 ^ suc (length bs)
    go true h = rw (pow-suc 2 (length bs)) (omega arith)
    go false h = rw (pow-suc 2 (length bs)) (omega arith)

pub word_small : (bs : List Bool) (j : ℕ) → map_word bs j < 2 ^ 64
unfolding map_word
word_small bs j =
    let xs = take 64 (drop (64 * j) bs) in
    let few : length xs ≤ 64 = simp length-take (omega arith) in
    let two : 0 < 2 = omega arith in
    omega (arith, ones_small xs, pow-le-pow_right two few)
