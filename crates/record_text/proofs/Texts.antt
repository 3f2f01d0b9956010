-- Texts that are written piece by piece.
use Prim.Native.Nat.{ℕ, zero, suc, ◌+◌, ◌-◌, ◌/◌, ◌%◌, ◌^◌, ◌≤◌, ◌<◌}
use native.Mathlib.Omega.{arith}
use native.Mathlib.Numerals.{add-one}
use native.Mathlib.Nat.{pow-suc, pow-le-pow_right, div-lt_iff_lt-mul, add-zero, le-div_iff_mul-le}
use mathlib.Core.Path.{◌≡◌, refl, sym, ap, ◌∙◌}
use mathlib.Core.Bool.{Bool, true, false}
use mathlib.Core.List.{List, [], ◌∷◌, ◌++◌, map, map-append, append-nil, append_assoc}
use lib.ListN.{length, length-set, take-append-drop, take, set, get_or, length-append}
use lib.Seq.{take-suc, drop-drop, length-take-le}
use lib.Dec.{ltb}
use borrow.Author.Tests.{lt-ltb, le-ltb, ltb-true, ltb-false}
use borrow.Rule.Slice.PartMut.{put_mid}
use Rattle.io.specs.Digits.{last_digits, hex_digit_ascii, IsDigitCount}
use Rattle.rules.specs.Bytes.{pick, end_to_end}
use Rattle.rules.proofs.Laws.Lists.{end_to_end-append, by-test}
use Rattle.words.specs.Written.{written}
use Rattle.words.proofs.Laws.{written-sets, length-written}
use Rattle.rules.specs.Seal.{over}
use Rattle.words.proofs.Behind.{next, over-written, behind}
use Rattle.rules.specs.Digits.{decimal_in, decimal, hex_digit, hex_in}
use Rattle.record_text.specs.Lines.{field, fields}
use Rattle.std.specs.Char.{to_ascii_uppercase}
use Rattle.std.specs.List.{take-map}

-- a text that was copied to the n bytes from a place on
pub copied : (at n : ℕ) (s text bs : List ℕ) → bs ≡ text → n ≡ length text → put_mid at n s bs ≡ written at text s
unfolding written
copied at n s text bs e size = rw (e, size, drop-drop (length text) at s) (sym (append_assoc (take at s) text _))

-- one byte more of a text
pub byte_more : (s text : List ℕ) (at i : ℕ) → at + length text ≤ length s → i < length text →
    set (written at (take i text) s) (at + i) (get_or text i 0) ≡ written at (take (i + 1) text) s
byte_more s text at i k h =
    let n : length (take i text) ≡ i = length-take-le i text (omega arith) in
    let w = written at (take i text) s in
    let fits : at + i + 1 ≤ length w = omega (arith, length-written at (take i text) s (omega arith)) in
    let joined-up = next at i (take i text) (get_or text i 0 ∷ []) s n (omega arith) refl refl in
    written-sets (at + i) (get_or text i 0 ∷ []) w fits ∙ (joined-up ∙ rw (add-one i, take-suc text i 0 h))

-- nothing yet
pub none_yet : (s text : List ℕ) (at : ℕ) → s ≡ written at (take 0 text) s
unfolding written
none_yet s text at = rw (append-nil (take at s), add-zero at) (sym (take-append-drop at s))

-- ---- digits

-- a number below 2 ^ 64 has 20 decimal digits at most
pub few : (n k : ℕ) → n < 2 ^ 64 → IsDigitCount 10 1 n k → k ≤ 20
few n k h f = go (ltb 20 k) refl
  where
    go : (b : Bool) → ltb 20 k ≡ b → k ≤ 20
    go false e = ltb-false 20 k e
    go true e =
        let g = ltb-true 20 k e in
        let low = f.2 (omega arith) in
        let up = pow-le-pow_right {n = 10} (omega arith) {i = 20} {j = k - 1} (omega arith) in
        absurd (omega arith)

decimal_digit : (d : ℕ) → d < 10 → hex_digit_ascii d ≡ 48 + d
decimal_digit d h = rw (lt-ltb d 10 h)

one-le : (k : ℕ) → 1 ≤ 10 ^ k
one-le k = pow-le-pow_right {n = 10} (omega arith) {i = 0} {j = k} (omega arith)

spelled : (k most n : ℕ) → 1 ≤ k → k ≤ most → n < 10 ^ k → (1 < k → 10 ^ (k - 1) ≤ n) →
    last_digits 10 k n ≡ decimal_in most n
unfolding decimal_in
spelled zero most n a b c d = absurd (omega arith)
spelled (suc k) zero n a b c d = absurd (omega arith)
spelled (suc zero) (suc most) n a b c d =
    let e : n % 10 ≡ n = omega arith in
    rw (lt-ltb n 10 c, e, decimal_digit n c)
spelled (suc (suc k)) (suc most) n a b c d =
    let e : suc (suc k) - 1 ≡ suc k = omega arith in
    let low : 10 ^ suc k ≤ n = rw e at (d (omega arith)) in
    let high : n / 10 < 10 ^ suc k =
    (div-lt_iff_lt-mul {k = 10} {x = n} {y = 10 ^ suc k} (omega arith)).1 (omega (arith, pow-suc 10 (suc k))) in
    let ten : 10 ≤ n = omega (arith, pow-suc 10 k, one-le k) in
    let g : suc k - 1 ≡ k = omega arith in
    let down : 10 ^ k ≤ n / 10 =
    (le-div_iff_mul-le {k = 10} {x = 10 ^ k} {y = n} (omega arith)).1 (omega (arith, pow-suc 10 k)) in
    let less : 1 < suc k → 10 ^ (suc k - 1) ≤ n / 10 = λ _. rw g down in
    rw (
      le-ltb n 10 ten,
      decimal_digit (n % 10) (omega arith),
      spelled (suc k) most (n / 10) (omega arith) (omega arith) high less,
    )

pub decimal-digits : (n k : ℕ) → n < 2 ^ 64 → IsDigitCount 10 1 n k → last_digits 10 k n ≡ decimal n
unfolding decimal
decimal-digits n k h f = spelled k 20 n f.0 (few n k h f) f.1 f.2

-- 16 hexadecimal digits
pub sixteen : (n k : ℕ) → n < 2 ^ 64 → IsDigitCount 16 16 n k → k ≡ 16
sixteen n k h f = go (ltb 16 k) refl
  where
    go : (b : Bool) → ltb 16 k ≡ b → k ≡ 16
    go false e = omega (arith, ltb-false 16 k e, f.0)
    go true e =
        let g = ltb-true 16 k e in
        let low = f.2 (omega arith) in
        let up = pow-le-pow_right {n = 16} (omega arith) {i = 16} {j = k - 1} (omega arith) in
        absurd (omega arith)

capital-digit : (d : ℕ) → d < 16 → to_ascii_uppercase (hex_digit_ascii d) ≡ hex_digit d
capital-digit d h = go (ltb d 10) refl
  where
    go : (b : Bool) → ltb d 10 ≡ b → to_ascii_uppercase (hex_digit_ascii d) ≡ hex_digit d
    go true e =
        let g = ltb-true d 10 e in
        rw (e, lt-ltb (48 + d) 97 (omega arith))
    go false e =
        let g = ltb-false d 10 e in
        rw (e, le-ltb (87 + d) 97 (omega arith), lt-ltb (87 + d) 123 (omega arith)) (omega arith)

pub capitals : (k n : ℕ) → map to_ascii_uppercase (last_digits 16 k n) ≡ hex_in k n
unfolding hex_in
capitals zero n = refl
capitals (suc k) n = rw (
  map-append to_ascii_uppercase (last_digits 16 k (n / 16)) (hex_digit_ascii (n % 16) ∷ []),
  capitals k (n / 16),
  capital-digit (n % 16) (omega arith),
)

pub length-hex : (k n : ℕ) → length (hex_in k n) ≡ k
unfolding hex_in
length-hex zero n = refl
length-hex (suc k) n =
    rw (length-append (hex_in k (n / 16)) (hex_digit (n % 16) ∷ []), length-hex k (n / 16)) (omega arith)

-- ---- fields

length-decimal : (k n : ℕ) → length (decimal_in k n) ≤ k
unfolding decimal_in
length-decimal zero n = omega arith
length-decimal (suc k) n =
    let h = length-decimal k (n / 10) in
    by-test (λ (b : Bool). length (pick b ((48 + n) ∷ []) (decimal_in k (n / 10) ++ ((48 + n % 10) ∷ []))) ≤ suc k)
    (ltb n 10) (λ e. omega arith) (λ e. rw (length-append (decimal_in k (n / 10)) ((48 + n % 10) ∷ [])) (omega arith))

pub length-field : (n : ℕ) → length (field n) ≤ 21
unfolding field decimal
length-field n = omega (arith, length-decimal 20 n)

field-more : (ns : List ℕ) (i : ℕ) → i < length ns →
    fields (take (i + 1) ns) ≡ fields (take i ns) ++ field (get_or ns i 0)
unfolding fields end_to_end
field-more ns i h =
    rw (
      add-one i,
      take-suc ns i 0 h,
      map-append field (take i ns) (get_or ns i 0 ∷ []),
      end_to_end-append (map field (take i ns)) (field (get_or ns i 0) ∷ []),
    )
    (ap (λ (x : List ℕ). end_to_end (map field (take i ns)) ++ x) (append-nil (field (get_or ns i 0))))

-- ---- a line

pub line-more : (p x s s₁ s₂ : List ℕ) (n : ℕ) → s₁ ≡ over p s → n ≡ length p → n ≤ length s → s₂ ≡ written n x s₁ →
    s₂ ≡ over (p ++ x) s
line-more p x s s₁ s₂ n e l k f = f ∙ (rw e (behind p x s n (sym l) k))

-- ---- a field is written

module _ (s : List ℕ) (at : ℕ) where
  space : at < length s → set s at 32 ≡ written at (32 ∷ []) s
  space k = written-sets at (32 ∷ []) s (omega arith)

  module _ (n k : ℕ) (t : List ℕ) (fits : n < 2 ^ 64) (few-digits : IsDigitCount 10 1 n k)
      (is : take k t ≡ last_digits 10 k n)
      (room : at + 21 ≤ length s) where
    field-digits : take k t ≡ decimal n
    field-digits = is ∙ decimal-digits n k fits few-digits

    pub field_room : at + 1 + length (take k t) ≤ length (set s at 32)
    unfolding field
    field_room = rw (field-digits, length-set s at 32) (omega (arith, length-field n))

    pub field-written : (r : ℕ) (s₂ : List ℕ) →
        (r ≡ at + 1 + length (take k t)) × (s₂ ≡ written (at + 1) (take k t) (set s at 32)) →
        (r ≡ at + length (field n)) × (r ≤ at + 21) × (s₂ ≡ written at (field n) s)
    unfolding field
    field-written r s₂ e =
        let e₀ : r ≡ at + 1 + length (decimal n) = rw field-digits at e.0 in
        let e₁ : s₂ ≡ written (at + 1) (decimal n) (set s at 32) = rw field-digits at e.1 in (
          omega arith,
          omega (arith, length-field n),
          next at 1 (32 ∷ []) (decimal n) s refl (omega arith) (space (omega arith)) e₁,
        )

  module _ (n k : ℕ) (t u : List ℕ) (fits : n < 2 ^ 64) (few-digits : IsDigitCount 16 16 n k)
      (is : take k t ≡ last_digits 16 k n)
      (raised : u ≡ map to_ascii_uppercase t)
      (room : at + 17 ≤ length s) where
    hex-digits : take k u ≡ hex_in 16 n
    hex-digits =
        rw (raised, take-map to_ascii_uppercase k t, is, sixteen n k fits few-digits) (capitals 16 n)

    pub hex-room : at + 1 + length (take k u) ≤ length (set s at 32)
    hex-room = rw (hex-digits, length-hex 16 n, length-set s at 32) (omega arith)

    pub hex-written : (r : ℕ) (s₂ : List ℕ) →
        (r ≡ at + 1 + length (take k u)) × (s₂ ≡ written (at + 1) (take k u) (set s at 32)) →
        (r ≡ at + 17) × (s₂ ≡ written at (32 ∷ hex_in 16 n) s)
    hex-written r s₂ e =
        let e₀ : r ≡ at + 1 + 16 = rw (hex-digits, length-hex 16 n) at e.0 in
        let e₁ : s₂ ≡ written (at + 1) (hex_in 16 n) (set s at 32) = rw hex-digits at e.1 in
        (omega arith, next at 1 (32 ∷ []) (hex_in 16 n) s refl (omega arith) (space (omega arith)) e₁)

-- ---- fields one by one

pub one-field : (n : ℕ) → fields (n ∷ []) ≡ field n
unfolding fields end_to_end
one-field n = append-nil (field n)

pub no_fields : (s ns : List ℕ) (at : ℕ) →
    (at ≡ at + length (fields (take 0 ns))) × (s ≡ written at (fields (take 0 ns)) s)
unfolding fields end_to_end
no_fields s ns at = (omega arith, none_yet s [] at)

module _ (ns s s₁ s₂ : List ℕ) (at i end r : ℕ) (h : i < length ns) (room : end ≤ length s) where
  pub fields-step : end ≡ at + length (fields (take i ns)) → s₁ ≡ written at (fields (take i ns)) s →
      r ≡ end + length (field (get_or ns i 0)) →
      s₂ ≡ written end (field (get_or ns i 0)) s₁ → (r ≡ at + length (fields (take (i + 1) ns)))
      × (s₂ ≡ written at (fields (take (i + 1) ns)) s)
  fields-step e f g k =
      let p = fields (take i ns) in
      let x = field (get_or ns i 0) in
      let n = length-append p x in
      let k₁ : s₂ ≡ written (at + length p) x s₁ = rw e at k in (
        rw (field-more ns i h) (omega arith),
        rw (field-more ns i h)
            (next at (length p) p x s refl (omega arith) f k₁),
      )

-- ---- a line of three parts, and of four

module _ (a b c s s₁ s₂ s₃ : List ℕ) (n₁ n₂ n₃ : ℕ) (first : n₁ ≤ length s) (second : n₂ ≤ length s) where
  pub line-of-three : (n₁ ≡ 0 + length a) × (s₁ ≡ written 0 a s) → n₂ ≡ n₁ + length b → s₂ ≡ written n₁ b s₁ →
      (n₃ ≡ n₂ + length c) × (s₃ ≡ written n₂ c s₂) →
      (n₃ ≡ length (a ++ b ++ c)) × (s₃ ≡ over (a ++ b ++ c) s)
  line-of-three e f g k =
      let x = length-append a b in
      let y = length-append (a ++ b) c in
      let t₁ : s₁ ≡ over a s = e.1 ∙ over-written a s in
      let t₂ : s₂ ≡ over (a ++ b) s = line-more a b s s₁ s₂ n₁ t₁ (omega (arith, e.0)) first g in
      (omega (arith, e.0, k.0), line-more (a ++ b) c s s₂ s₃ n₂ t₂ (omega (arith, e.0)) second k.1)

module _ (a b c d s s₁ s₂ s₃ s₄ : List ℕ) (n₁ n₂ n₃ n₄ : ℕ) (first : n₁ ≤ length s) (second : n₂ ≤ length s)
    (third : n₃ ≤ length s) where
  pub line-of-four : (n₁ ≡ 0 + length a) × (s₁ ≡ written 0 a s) → n₂ ≡ n₁ + length b → s₂ ≡ written n₁ b s₁ →
      n₃ ≡ n₂ + length c → s₃ ≡ written n₂ c s₂ →
      (n₄ ≡ n₃ + length d) × (s₄ ≡ written n₃ d s₃) → (n₄ ≡ length (a ++ b ++ c ++ d))
      × (s₄ ≡ over (a ++ b ++ c ++ d) s)
  line-of-four e f g i j k =
      let z = line-of-three a b c s s₁ s₂ s₃ n₁ n₂ n₃ first second e f g (i, j) in
      let y = length-append (a ++ b ++ c) d in
      (omega (arith, z.0, k.0), line-more (a ++ b ++ c) d s s₃ s₄ n₃ z.1 z.0 third k.1)
