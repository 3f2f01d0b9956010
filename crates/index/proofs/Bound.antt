-- Every index's value lies between 1 and 5, the roundings included, and so is no NaN.
-- `AtMost x n` says that x is finite, not negative, and n at most in size. A rounding keeps it, since it keeps the
-- order and n is a value of the format.
use Prim.Native.Nat.{ℕ, ◌+◌, ◌*◌, ◌≤◌, ◌<◌, ◌^◌}
use native.Mathlib.Nat.{le_trans, le_of_eq, mul-one, mul_comm, mul_assoc, mul-mul-mul_comm, mul-le-mul}
use native.Mathlib.Nat.{mul-le-mul_right, mul-pos, add-mul, le_of_lt, zero-lt-suc}
use native.Mathlib.Omega.{arith}
use mathlib.Core.Path.{◌≡◌, refl, sym, ap, ◌∙◌, subst}
use mathlib.Core.Bool.{Bool, true, false, not, cond, ◌&&◌, ◌||◌, true≢false}
use lib.IntN.{ℤ, pos}
use lib.Dec.{T, ltb, eqb, ltb→lt, eqb→eq, le→leb, lit≤}
use lib.Ieee.{Float, nan, inf, fin, binary64, up, down, odd, units, round, of_int, in_float, is_nan, add, mul, div}
use lib.Ieee.{le}
use lib.Ieee.Fits.{round_is, down_pos, up_pos, and_l}
use lib.Ieee.Exact.{HasValue, odd_sign}
use lib.Ieee.Order.{round_mono, le_of_values, drop, kept}
use lib.Ieee.Back.{round_whole}
use lib.Ieee.Positive.{through, first_pos}
use lib.Ieee.Bits.{cond_no}
use Rattle.rules.proofs.Laws.Lists.{by-test}
use Rattle.rules.specs.Index.{float, ic_of, ip_of, value_of, index_of}
use Rattle.index.specs.Counts.{Counts, ExactCounts, NoNan}

pub exact : {n : ℕ} → n ≤ 2 ^ 53 → T (in_float binary64 (pos n))
unfolding in_float
exact {n} h = le→leb n (2 ^ 53) h

-- ---- the shapes that a value can have

-- x is a / c, and not negative
pub data Is : Float → ℕ → ℕ → Type 0 where
  is : {m : ℕ} {e : ℤ} {a c : ℕ} → m * up e * c ≡ a * down e → Is (fin false m e) a c

pub data AtMost : Float → ℕ → Type 0 where
  at_most : {m : ℕ} {e : ℤ} {n : ℕ} → m * up e ≤ n * down e → AtMost (fin false m e) n

-- not negative and no NaN
pub data Plain : Float → Type 0 where
  finite : {m : ℕ} {e : ℤ} → Plain (fin false m e)
  infinite : Plain (inf false)

shape : (x : Float) (a c : ℕ) → HasValue x false a c → Is x a c
shape nan a c h = absurd h
shape (inf s) a c h = absurd h
shape (fin true m e) a c h = absurd (true≢false h.0)
shape (fin false m e) a c h = is h.1

plain : {x : Float} {a c : ℕ} → Is x a c → Plain x
plain (is p) = finite

pub whole : (n : ℕ) → n ≤ 2 ^ 53 → Is (round binary64 false n 1) n 1
whole n h = shape (round binary64 false n 1) n 1 (round_whole binary64 false n h)

-- ---- `round`

units-plain : (q k : ℕ) → Plain (units binary64 false q k)
unfolding units
units-plain q k =
    by-test (λ (b : Bool). Plain (cond b (odd 54 false q k 1074) (inf false))) (ltb (q * 2 ^ k) (2 ^ 2098))
    (λ e. plain (shape (odd 54 false q k 1074) (q * 2 ^ k) (2 ^ 1074) (odd_sign 54 false q k 1074))) (λ e. infinite)

pub round-plain : (a b : ℕ) → Plain (round binary64 false a b)
round-plain a b = rw (round_is binary64 false a b) (units-plain (kept 53 (a * 2 ^ 1074) b) (drop 53 (a * 2 ^ 1074) b))

lt-or-eq : (a b : ℕ) → T (ltb a b || (eqb a b && true)) → a ≤ b
lt-or-eq a b = go (ltb a b) (ltb→lt a b)
  where
    go : (x : Bool) → (T x → a < b) → T (x || (eqb a b && true)) → a ≤ b
    go true h t = le_of_lt (h tt)
    go false h t = le_of_eq (eqb→eq a b (and_l (eqb a b) true t))

-- what is not above n is at most n
pub under : {x y : Float} {n : ℕ} → Plain x → Is y n 1 → T (le x y) → AtMost x n
unfolding le
under infinite (is q) h = absurd h
under {n = n} (finite {m} {e}) (is {m = k} {e = d} q) h =
    at_most (rw mul-one at (through (m * up e) (k * up d) n (down e) (down d) 1 (down_pos d)
    (lt-or-eq (m * up e * down d) (k * up d * down e) h) (le_of_eq q)))

pub round-at-most : (a b n : ℕ) → 0 < b → n ≤ 2 ^ 53 → a ≤ n * b → AtMost (round binary64 false a b) n
round-at-most a b n B N h =
    under (round-plain a b) (whole n N) (round_mono binary64 a b n 1 B (zero-lt-suc 0) (rw mul-one h))

-- ---- the operations

sum-le : (x y i j c d : ℕ) → x ≤ i * c → y ≤ j * d → x * d + y * c ≤ (i + j) * (c * d)
sum-le x y i j c d p q =
    let a : x * d ≤ i * (c * d) = rw mul_assoc at (mul-le-mul_right d p) in
    let b : y * c ≤ j * (d * c) = rw mul_assoc at (mul-le-mul_right c q) in
    omega (arith, add-mul i j (c * d), ap (λ (z : ℕ). j * z) (mul_comm d c))

pub add-at-most : {x y : Float} {i j : ℕ} → AtMost x i → AtMost y j → i + j ≤ 2 ^ 53 →
    AtMost (add binary64 x y) (i + j)
unfolding add
add-at-most {i = i} {j = j} (at_most {m = m} {e = e} p) (at_most {m = k} {e = d} q) N =
    round-at-most (m * up e * down d + k * up d * down e) (down e * down d) (i + j)
    (mul-pos (down_pos e) (down_pos d)) N
    (sum-le (m * up e) (k * up d) i j (down e) (down d) p q)

pub mul-at-most : {x y : Float} {i j : ℕ} → AtMost x i → AtMost y j → i * j ≤ 2 ^ 53 →
    AtMost (mul binary64 x y) (i * j)
unfolding mul
mul-at-most {i = i} {j = j} (at_most {m = m} {e = e} p) (at_most {m = k} {e = d} q) N =
    round-at-most (m * up e * (k * up d)) (down e * down d) (i * j) (mul-pos (down_pos e) (down_pos d)) N
    (le_trans (mul-le-mul p q) (le_of_eq (mul-mul-mul_comm i (down e) j (down d))))

quotient_le : (x y a b c d : ℕ) → x * 1 ≡ a * c → y * 1 ≡ b * d → a ≤ b → x * d ≤ 1 * (y * c)
quotient_le x y a b c d p q h =
    let x' : x ≡ a * c = sym (mul-one x) ∙ p in
    let y' : y ≡ b * d = sym (mul-one y) ∙ q in
    let g : a * (c * d) ≤ b * (c * d) = mul-le-mul_right (c * d) h in
    let l : x * d ≡ a * (c * d) = ap (λ (z : ℕ). z * d) x' ∙ mul_assoc a c d in
    let r : y * c ≡ b * (c * d) = ap (λ (z : ℕ). z * c) y' ∙ mul_assoc b d c ∙ ap (λ (z : ℕ). b * z) (mul_comm d c) in
    omega arith

not-zero : (k u b d : ℕ) → k * u * 1 ≡ b * d → 0 < b → 0 < d → 0 < k
not-zero k u b d q B D = first_pos k u (first_pos (k * u) 1 (subst (λ (z : ℕ). 0 < z) (sym q) (mul-pos B D)))

nonzero : (k : ℕ) → 0 < k → T (not (eqb k 0))
nonzero k h = go (eqb k 0) (eqb→eq k 0)
  where
    go : (b : Bool) → (T b → k ≡ 0) → T (not b)
    go true e = let z : k ≡ 0 = e tt in omega arith
    go false e = tt

div-at-most : {x y : Float} {a b : ℕ} → Is x a 1 → Is y b 1 → 0 < b → a ≤ b → AtMost (div binary64 x y) 1
unfolding div
div-at-most {a = a} {b = b} (is {m = m} {e = e} p) (is {m = k} {e = d} q) B h =
    let K : 0 < k = not-zero k (up d) b (down d) q B (down_pos d) in
    rw (cond_no (eqb k 0) _ (round binary64 false (m * up e * down d) (k * up d * down e)) (nonzero k K))
    (round-at-most (m * up e * down d) (k * up d * down e) 1 (mul-pos (mul-pos K (up_pos d)) (down_pos e)) (lit≤ tt)
    (quotient_le (m * up e) (k * up d) a b (down e) (down d) p q h))

-- ---- the index

pub small : {x : Float} {n : ℕ} → Is x n 1 → AtMost x n
small (is p) = at_most (le_of_eq (rw mul-one at p))

-- a count over one that is no smaller
ratio : (a b : ℕ) → 0 < b → a ≤ b → b ≤ 2 ^ 53 → AtMost (div binary64 (float a) (float b)) 1
unfolding of_int
ratio a b B h N = div-at-most (whole a (le_trans h N)) (whole b N) B h

pub upper : {x : Float} (n : ℕ) → n ≤ 2 ^ 53 → AtMost x n → T (le x (float n))
unfolding of_int
upper n N (at_most {m = m} {e = e} p) =
    le_of_values (fin false m e) (float n) (m * up e) (down e) n 1 (down_pos e) (zero-lt-suc 0) (refl, refl)
    (round_whole binary64 false n N) (rw mul-one p)

lower : {y : Float} {n : ℕ} → AtMost y n → T (le (float 1) (add binary64 (float 1) y))
unfolding of_int add
lower (at_most {m = k} {e = d} q) = round_mono binary64 1 1 (1 * 1 * down d + k * up d * 1) (1 * down d)
    (zero-lt-suc 0) (omega (arith, down_pos d)) (omega arith)

real : {x : Float} {n : ℕ} → AtMost x n → T (not (is_nan x))
unfolding is_nan
real (at_most p) = tt

-- counts that fit 32 bits are exact
pub exact-counts : {unrepeated pictures packets lost : ℕ} → Counts unrepeated pictures packets lost →
    ExactCounts unrepeated pictures packets lost
exact-counts h =
    record {
      some_pictures = h.some_pictures;
      of_them = h.of_them;
      some_packets = h.some_packets;
      few_pictures = omega (arith, h.few_pictures);
      few_packets = omega (arith, h.few_packets);
      few_lost = omega (arith, h.few_lost);
    }

module _ {unrepeated pictures packets lost : ℕ} (h : ExactCounts unrepeated pictures packets lost) where
  pub ic-at-most : AtMost (ic_of unrepeated pictures) 4
  unfolding ic_of of_int
  ic-at-most = mul-at-most (small (whole 4 (lit≤ tt)))
      (ratio unrepeated pictures h.some_pictures h.of_them (omega arith)) (lit≤ tt)

  pub ip-at-most : AtMost (ip_of packets lost) 1
  unfolding ip_of
  ip-at-most = ratio packets (packets + lost) (omega arith) (omega arith) (omega arith)

  pub gain-at-most : AtMost (mul binary64 (ic_of unrepeated pictures) (ip_of packets lost)) 4
  gain-at-most = mul-at-most ic-at-most ip-at-most (lit≤ tt)

  pub value-at-most : AtMost (value_of (ic_of unrepeated pictures) (ip_of packets lost)) 5
  unfolding value_of of_int
  value-at-most = add-at-most (small (whole 1 (lit≤ tt))) gain-at-most (lit≤ tt)

  -- 1 ≤ index ≤ 5, so it is no NaN
  pub at_least_one : T (le (float 1) (index_of unrepeated pictures packets lost).value)
  unfolding index_of value_of
  at_least_one = lower gain-at-most

  pub at-most-five : T (le (index_of unrepeated pictures packets lost).value (float 5))
  unfolding index_of
  at-most-five = upper 5 (lit≤ tt) value-at-most

  -- nor is Ic, from 0 to 4, or Ip, from 0 to 1
  pub no_nan : NoNan (index_of unrepeated pictures packets lost)
  unfolding index_of
  no_nan = record { ic = real ic-at-most; ip = real ip-at-most; value = real value-at-most }
