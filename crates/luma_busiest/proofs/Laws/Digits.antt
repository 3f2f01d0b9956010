-- An argument, digit by digit: what the digits before place i leave to say of the word.
use Prim.Native.Nat.{ℕ, ◌+◌, ◌-◌, ◌*◌, ◌^◌, ◌≤◌, ◌<◌}
use native.Mathlib.Omega.{arith}
use native.Mathlib.Numerals.{add-one}
use native.Mathlib.Nat.{pow-suc, pow-le-pow_right}
use native.Mathlib.Decide.{dec_le}
use mathlib.Core.Path.{◌≡◌, refl, ◌∙◌}
use mathlib.Core.Bool.{true, false, and-false}
use mathlib.Core.List.{List, [], ◌∷◌}
use lib.ListN.{length, get_or, drop, drop_of_length-le}
use lib.Seq.{drop-cons}
use borrow.Author.Tests.{le-leb, lt-leb}
use Rattle.rules.specs.Bytes.{within}
use Rattle.rules.specs.Busiest.{all_digits, with_digits, argument_of}

-- the digits before place i are n, and the rest decides
pub record Read (word : List ℕ) (n i : ℕ) : Type 0 where
  pub few : length word ≤ 9
  pub inside : i ≤ length word
  pub small : n < 10 ^ i
  pub digits : all_digits word ≡ all_digits (drop i word)
  pub value : with_digits 0 word ≡ with_digits n (drop i word)

pub too_long : (word : List ℕ) → 9 < length word → 0 ≡ argument_of word
unfolding argument_of
too_long word h = rw (le-leb 1 (length word) (omega arith), lt-leb (length word) 9 h)

pub read_none : (word : List ℕ) → length word ≤ 9 → Read word 0 0
read_none word h = record { few = h; inside = omega arith; small = omega arith; digits = refl; value = refl }

module _ (word : List ℕ) (n i : ℕ) (r : Read word n i) (more : i < length word) where
  pub read-room : n < 100000000
  read-room =
      let ten : 0 < 10 = omega arith in
      let last : i ≤ 8 = omega (arith, r.few) in
      let most : 10 ^ i ≤ 10 ^ 8 = pow-le-pow_right ten last in
      omega (arith, r.small)

  rest : drop i word ≡ get_or word i 0 ∷ drop (i + 1) word
  rest = rw (add-one i) (drop-cons word i 0 more)

  pub read-wrong : within 48 57 (get_or word i 0) ≡ false → 0 ≡ argument_of word
  unfolding argument_of all_digits
  read-wrong e =
      let none : all_digits word ≡ false = r.digits ∙ rw (rest, e) in
      rw (none, and-false (within 1 9 (length word)))

  pub read-digit : 48 ≤ get_or word i 0 → get_or word i 0 ≤ 57 → Read word (10 * n + (get_or word i 0 - 48)) (i + 1)
  unfolding all_digits with_digits
  read-digit low high =
      let b = get_or word i 0 in
      record {
        few = r.few;
        inside = omega arith;
        small = rw (add-one i, pow-suc 10 i) (omega (arith, r.small));
        digits = r.digits ∙ rw (rest, le-leb 48 b low, le-leb b 57 high);
        value = r.value ∙ rw rest;
      }

pub read_all : (word : List ℕ) (n i : ℕ) → Read word n i → length word ≤ i → n ≡ argument_of word
unfolding argument_of all_digits with_digits
read_all word n i r h =
    let none : drop i word ≡ [] = drop_of_length-le word h in
    let digits : all_digits word ≡ true = r.digits ∙ rw none in
    let value : with_digits 0 word ≡ n = r.value ∙ rw none in
    go (dec_le 1 (length word)) digits value
  where
    go : Dec (1 ≤ length word) → all_digits word ≡ true → with_digits 0 word ≡ n → n ≡ argument_of word
    go (yes some) digits value = rw (le-leb 1 (length word) some, le-leb (length word) 9 r.few, digits, value)
    go (no some) digits value =
        let first : i ≡ 0 = omega (arith, r.inside) in
        let zero : n < 10 ^ 0 = rw first at r.small in
        rw (lt-leb 1 (length word) (omega arith)) (omega arith)
