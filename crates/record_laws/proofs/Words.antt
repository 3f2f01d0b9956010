-- Numbers in bytes, the lowest byte first: one law over the width and the place for reading what was written, one for
-- writing what was read.
use Prim.Native.Nat.{ℕ, zero, suc, ◌+◌, ◌*◌, ◌/◌, ◌%◌, ◌^◌, ◌≤◌, ◌<◌}
use native.Mathlib.Omega.{arith}
use native.Mathlib.Nat.{pow-suc, div-lt_iff_lt-mul, add_assoc, add-zero}
use native.Mathlib.Numerals.{add-one}
use mathlib.Core.Path.{◌≡◌, refl, sym, ap, ◌∙◌}
use mathlib.Core.List.{List, [], ◌∷◌, ◌++◌, append_assoc}
use lib.ListN.{length, drop}
use lib.Seq.{drop-cons, get_or-append-add, get_or-drop}
use Rattle.rules.specs.Bytes.{byte, word32, word64, bytes_of}

-- every element is a byte
abbrev pub EachByte : List ℕ → Type 0
EachByte s = (i : ℕ) → byte s i < 256

-- the number that n bytes from place i on say
unfoldable pub number : ℕ → List ℕ → ℕ → ℕ
number zero s i = 0
number (suc n) s i = byte s i + 256 * number n s (i + 1)

pub word32-number : (s : List ℕ) (i : ℕ) → word32 s i ≡ number 4 s i
unfolding word32 number
word32-number s i = rw (add_assoc i 1 1, add_assoc i 2 1) (omega arith)

pub word64-number : (s : List ℕ) (i : ℕ) → word64 s i ≡ number 8 s i
unfolding word32 word64 number
word64-number s i =
    rw (add_assoc i 1 1, add_assoc i 2 1, add_assoc i 3 1, add_assoc i 4 1, add_assoc i 5 1, add_assoc i 6 1)
    (simp add_assoc (omega arith))

-- ---- reading what was written

pub length-bytes : (n x : ℕ) → length (bytes_of n x) ≡ n
unfolding bytes_of
length-bytes zero x = refl
length-bytes (suc n) x = ap suc (length-bytes n (x / 256))

-- what stands behind p is read from place length p on
number_behind : (n : ℕ) (p s : List ℕ) (i : ℕ) → number n (p ++ s) (length p + i) ≡ number n s i
unfolding number
number_behind zero p s i = refl
number_behind (suc n) p s i =
    let h : number n (p ++ s) (length p + i + 1) ≡ number n s (i + 1) =
    rw (add_assoc (length p) i 1) (number_behind n p s (i + 1)) in
    omega (arith, get_or-append-add p s i 0)

-- n bytes of x at the front read as x
number-front : (n x : ℕ) (t : List ℕ) → x < 256 ^ n → number n (bytes_of n x ++ t) 0 ≡ x
unfolding number bytes_of
number-front zero x t h = omega arith
number-front (suc n) x t h =
    let below : x / 256 < 256 ^ n =
    (div-lt_iff_lt-mul {k = 256} {x = x} {y = 256 ^ n} (omega arith)).1 (omega (arith, pow-suc 256 n)) in
    let rest : number n (x % 256 ∷ bytes_of n (x / 256) ++ t) 1 ≡ number n (bytes_of n (x / 256) ++ t) 0 =
    number_behind n (x % 256 ∷ []) (bytes_of n (x / 256) ++ t) 0 in
    omega (arith, number-front n (x / 256) t below)

-- n bytes of x, behind p and before t, read as x
pub number-bytes : (n : ℕ) (p t : List ℕ) (x : ℕ) → x < 256 ^ n → number n (p ++ bytes_of n x ++ t) (length p) ≡ x
number-bytes n p t x h =
    rw (append_assoc p, ← add-zero (length p)) (number_behind n p (bytes_of n x ++ t) 0 ∙ number-front n x t h)

-- ---- writing what was read

-- n bytes read and written again are the bytes that stood there
pub bytes-number : (n : ℕ) (s : List ℕ) (i : ℕ) → EachByte s → i + n ≤ length s →
    bytes_of n (number n s i) ++ drop (i + n) s ≡ drop i s
unfolding number bytes_of
bytes-number zero s i b h = rw (add-zero i)
bytes-number (suc n) s i b h =
    let k = b i in
    let e : (byte s i + 256 * number n s (i + 1)) % 256 ≡ byte s i = omega arith in
    let f : (byte s i + 256 * number n s (i + 1)) / 256 ≡ number n s (i + 1) = omega arith in
    let more : bytes_of n (number n s (i + 1)) ++ drop (i + 1 + n) s ≡ drop (i + 1) s =
    bytes-number n s (i + 1) b (omega arith) in
    let g : i + suc n ≡ i + 1 + n = omega arith in
    rw (e, f, g, more, add-one i) (sym (drop-cons s i 0 (omega arith)))

-- ---- the words of the rules

pub word32-bytes : (p t : List ℕ) (x : ℕ) → x < 2 ^ 32 → word32 (p ++ bytes_of 4 x ++ t) (length p) ≡ x
word32-bytes p t x h = word32-number (p ++ bytes_of 4 x ++ t) (length p) ∙ number-bytes 4 p t x h

pub word64-bytes : (p t : List ℕ) (x : ℕ) → x < 2 ^ 64 → word64 (p ++ bytes_of 8 x ++ t) (length p) ≡ x
word64-bytes p t x h = word64-number (p ++ bytes_of 8 x ++ t) (length p) ∙ number-bytes 8 p t x h

pub bytes-word32 : (s : List ℕ) (i : ℕ) → EachByte s → i + 4 ≤ length s →
    bytes_of 4 (word32 s i) ++ drop (i + 4) s ≡ drop i s
bytes-word32 s i b h = rw (word32-number s i) (bytes-number 4 s i b h)

pub bytes-word64 : (s : List ℕ) (i : ℕ) → EachByte s → i + 8 ≤ length s →
    bytes_of 8 (word64 s i) ++ drop (i + 8) s ≡ drop i s
bytes-word64 s i b h = rw (word64-number s i) (bytes-number 8 s i b h)

-- a word behind the first i bytes
pub word32-drop : (i : ℕ) (s : List ℕ) (j : ℕ) → word32 (drop i s) j ≡ word32 s (i + j)
unfolding word32
word32-drop i s j = simp (get_or-drop, add_assoc)

-- a word of a byte string fits
pub word32-fits : (s : List ℕ) (i : ℕ) → EachByte s → word32 s i < 2 ^ 32
unfolding word32
word32-fits s i b = omega (arith, b i, b (i + 1), b (i + 2), b (i + 3))

pub word64-fits : (s : List ℕ) (i : ℕ) → EachByte s → word64 s i < 2 ^ 64
unfolding word64
word64-fits s i b = omega (arith, word32-fits s i b, word32-fits s (i + 4) b)
