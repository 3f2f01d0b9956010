-- The ones of masked words are the repeated pictures.
use Prim.Native.Nat.{ℕ, zero, suc, ◌+◌, ◌-◌, ◌*◌, ◌/◌, ◌%◌, ◌^◌, ◌≤◌, ◌<◌}
use native.Mathlib.Omega.{arith}
use native.Mathlib.Nat.{pow-suc, mul_comm, zero-div, zero-mod, div-one, div-div-eq-div-mul, add-zero, mod-lt}
use native.Mathlib.Numerals.{add-one}
use mathlib.Core.Path.{◌≡◌, refl, sym, ap, ◌∙◌}
use mathlib.Core.List.{List, [], ◌∷◌}
use mathlib.Core.Bool.{Bool, true, false}
use lib.ListN.{length, get_or, take, drop}
use lib.Seq.{take-take, drop-drop}
use lib.Bits.{bit_and, and_high}
use lib.Pow.{pow_pos, ones_split, high, ones_lt, shl_exact, high_ones, mod-pow-add}
use lib.Count as digits
use Rattle.rules.specs.Bytes.{pick, count}
use Rattle.rules.specs.Scenes.{is_true}
use Rattle.rules.specs.Passage.{repeated_in}
use Rattle.rules.proofs.Laws.Passage.{repeated-split, repeated-end}
use Rattle.luma_laws.specs.Past.{ones, map_word}
use Rattle.luma_passage.specs.Contract.{Mapped}

-- ---- the number that has these bits for its digits

module _ (b : Bool) (bs : List Bool) where
  first-digit : ones (b ∷ bs) % 2 ≡ pick b 1 0
  unfolding ones
  first-digit = go b
    where
      go : (c : Bool) → (pick c 1 0 + 2 * ones bs) % 2 ≡ pick c 1 0
      go true = omega arith
      go false = omega arith

  later-digits : ones (b ∷ bs) / 2 ≡ ones bs
  unfolding ones
  later-digits = go b
    where
      go : (c : Bool) → (pick c 1 0 + 2 * ones bs) / 2 ≡ ones bs
      go true = omega arith
      go false = omega arith

no_ones : digits.ones 0 ≡ 0
no_ones = omega (arith, digits.ones-le 0 0 (pow_pos 0))

-- its ones are the true bits
ones-count : (bs : List Bool) → digits.ones (ones bs) ≡ count is_true bs
unfolding ones count
ones-count [] = no_ones
ones-count (b ∷ bs) = digits.ones_step (ones (b ∷ bs)) ∙ rw (first-digit b bs, later-digits b bs, ones-count bs)

-- shifted down by k it has the bits from k on
ones-drop : (k : ℕ) (bs : List Bool) → ones bs / 2 ^ k ≡ ones (drop k bs)
unfolding ones
ones-drop zero bs = div-one (ones bs)
ones-drop (suc k) [] = zero-div (2 ^ suc k)
ones-drop (suc k) (b ∷ bs) =
    rw (pow-suc 2 k, mul_comm (2 ^ k) 2, ← div-div-eq-div-mul (ones (b ∷ bs)) 2 (2 ^ k), later-digits b bs)
    (ones-drop k bs)

-- its k lowest digits are the first k bits
ones-take : (k : ℕ) (bs : List Bool) → ones bs % 2 ^ k ≡ ones (take k bs)
unfolding ones
ones-take zero bs = omega arith
ones-take (suc k) [] = zero-mod (2 ^ suc k)
ones-take (suc k) (b ∷ bs) =
    let x = ones (b ∷ bs) in
    let e : x % 2 ^ suc k ≡ (x / 2 % 2 ^ k) * 2 + x % 2 =
    ap (λ (n : ℕ). x % 2 ^ n) (sym (add-one k)) ∙ mod-pow-add x k 1 in
    let h : x / 2 % 2 ^ k ≡ ones (take k bs) =
    ap (λ (n : ℕ). n % 2 ^ k) (later-digits b bs) ∙ ones-take k bs in
    let f = first-digit b bs in
    omega arith

-- ---- a part of a word of the map is a part of the list

module _ {A : Type 0} where
  part-inside : (f n m : ℕ) (xs : List A) → f + n ≤ m → take n (drop f (take m xs)) ≡ take n (drop f xs)
  part-inside zero n m xs h = take-take n m xs (omega arith)
  part-inside (suc f) n zero xs h = absurd (omega arith)
  part-inside (suc f) n (suc m) [] h = refl
  part-inside (suc f) n (suc m) (x ∷ xs) h = part-inside f n m xs (omega arith)

word-part : (rs : List Bool) (at n : ℕ) → at % 64 + n ≤ 64 →
    digits.ones (map_word rs (at / 64) / 2 ^ (at % 64) % 2 ^ n) ≡ count is_true (take n (drop at rs))
unfolding map_word
word-part rs at n h =
    let j = at / 64 in
    let f = at % 64 in
    let here : 64 * j + f ≡ at = omega arith in
    let bits = take 64 (drop (64 * j) rs) in
    let inside = part-inside f n 64 (drop (64 * j) rs) h in
    rw (
      ones-drop f bits,
      ones-take n (drop f bits),
      ones-count (take n (drop f bits)),
      inside,
      drop-drop f (64 * j) rs,
      here,
    )

-- ---- the mask

masks : (f n : ℕ) → f + n ≤ 64 → ((2 ^ 64 - 1) / 2 ^ (64 - n) * 2 ^ f) % 2 ^ 64 ≡ 2 ^ (n + f) - 2 ^ f
masks f n h =
    let k = 64 - n in
    let all : n + k ≡ 64 = omega arith in
    let low : (2 ^ 64 - 1) / 2 ^ k ≡ 2 ^ n - 1 =
    ap (λ (m : ℕ). (2 ^ m - 1) / 2 ^ k) (sym all) ∙ ap (λ (x : ℕ). x / 2 ^ k) (ones_split n k)
    ∙ high (2 ^ n - 1) k (ones_lt k) in
    ap (λ (x : ℕ). (x * 2 ^ f) % 2 ^ 64) low ∙ shl_exact n f 64 (ones_lt n) (omega arith) ∙ sym (high_ones n f)

pub masked : (w f n : ℕ) → f + n ≤ 64 →
    digits.ones (bit_and w (((2 ^ 64 - 1) / 2 ^ (64 - n) * 2 ^ f) % 2 ^ 64)) ≡ digits.ones (w / 2 ^ f % 2 ^ n)
masked w f n h =
    let x = w / 2 ^ f % 2 ^ n in
    ap (λ (m : ℕ). digits.ones (bit_and w m)) (masks f n h)
    ∙ ap digits.ones (and_high w n f ∙ sym (add-zero (x * 2 ^ f)))
    ∙ digits.ones_cat f x 0 (pow_pos f)
    ∙ ap (λ (m : ℕ). digits.ones x + m) no_ones
    ∙ add-zero (digits.ones x)

-- n bits have n ones at most
pub part-few : (x n : ℕ) → digits.ones (x % 2 ^ n) ≤ n
part-few x n = digits.ones-le n (x % 2 ^ n) (mod-lt x (pow_pos n))

-- ---- the loop: those found and those from `at` on are all

module _ (w : List ℕ) (a b : ℕ) where
  abbrev pub Counted : ℕ → ℕ → Type 0
  Counted found at =
      (rs : List Bool) → Mapped w rs → a ≤ b → b ≤ length rs → found + repeated_in at b rs ≡ repeated_in a b rs

  pub counted-more : (found at n r : ℕ) → Counted found at → at < b → at + n ≤ b → at % 64 + n ≤ 64 →
      r ≡ digits.ones (get_or w (64 + at / 64) 0 / 2 ^ (at % 64) % 2 ^ n) → Counted (found + r) (at + n)
  counted-more found at n r s g h f e rs m k l =
      let p = s rs m k l in
      let few = m.few in
      let word = m.word (at / 64) (omega arith) in
      let here = word-part rs at n f in
      let t : digits.ones (get_or w (64 + at / 64) 0 / 2 ^ (at % 64) % 2 ^ n) ≡
      digits.ones (map_word rs (at / 64) / 2 ^ (at % 64) % 2 ^ n) = rw word in
      let q = repeated-split at n b rs h in
      omega arith

  pub counted-all : (found at : ℕ) → Counted found at → b ≤ at → (rs : List Bool) → Mapped w rs → a ≤ b →
      b ≤ length rs → found ≡ repeated_in a b rs
  counted-all found at s h rs m k l =
      let p = s rs m k l in
      let z = repeated-end at b rs h in
      omega arith
