-- Words for what every chapter needs: a choice, numbers in bytes, sums and lists. A byte string is a list of numbers;
-- a byte that is not there reads as 0.
use Rattle.std.specs.Prelude.{ℕ, zero, suc, ◌+◌, ◌-◌, ◌*◌, ◌/◌, ◌%◌, ◌<◌, List, [], ◌∷◌, ◌++◌, Bool, true, false}
use Rattle.std.specs.Prelude.{◌&&◌, get_or, take, drop, leb}

-- the first if the test passes, otherwise the second
abbrev pub pick {ℓ} : {A : Type ℓ} → Bool → A → A → A
pick true a b = a
pick false a b = b

-- byte i of a string
abbrev pub byte : List ℕ → ℕ → ℕ
byte s i = get_or s i 0

-- lowest and highest are inside
abbrev pub within : ℕ → ℕ → ℕ → Bool
within low high x = leb low x && leb x high

-- ---- numbers in a string: little-endian (capture headers, records) and big-endian (network fields)

unfoldable pub word32 : List ℕ → ℕ → ℕ
word32 s i = byte s i + 256 * byte s (i + 1) + 65536 * byte s (i + 2) + 16777216 * byte s (i + 3)

unfoldable pub word64 : List ℕ → ℕ → ℕ
word64 s i = word32 s i + 4294967296 * word32 s (i + 4)

unfoldable pub network16 : List ℕ → ℕ → ℕ
network16 s i = 256 * byte s i + byte s (i + 1)

-- the lowest n bytes of a number, the lowest first
unfoldable pub bytes_of : ℕ → ℕ → List ℕ
bytes_of zero x = []
bytes_of (suc n) x = x % 256 ∷ bytes_of n (x / 256)

-- ---- sums and the like

unfoldable pub total : List ℕ → ℕ
total [] = 0
total (x ∷ xs) = x + total xs

abbrev pub smaller : ℕ → ℕ → ℕ
smaller a b = pick (leb a b) a b

abbrev pub larger : ℕ → ℕ → ℕ
larger a b = pick (leb a b) b a

-- |a - b|
abbrev pub apart : ℕ → ℕ → ℕ
apart a b = (a - b) + (b - a)

-- the greatest of some numbers, 0 of none
unfoldable pub greatest_of : List ℕ → ℕ
greatest_of [] = 0
greatest_of (x ∷ xs) = larger x (greatest_of xs)

-- the least of x and some further numbers
unfoldable pub least_of : ℕ → List ℕ → ℕ
least_of x [] = x
least_of x (y ∷ ys) = smaller x (least_of y ys)

module _ {ℓ} {A : Type ℓ} where
  -- how many pass a test
  unfoldable pub count : (A → Bool) → List A → ℕ
  count test [] = 0
  count test (x ∷ xs) = pick (test x) 1 0 + count test xs

  -- those that pass a test
  unfoldable pub only : (A → Bool) → List A → List A
  only test [] = []
  only test (x ∷ xs) = let more = only test xs in pick (test x) (x ∷ more) more

  -- the sum of what f makes of each place and what stands there, where the first stands at place i
  unfoldable pub tally : (ℕ → A → ℕ) → ℕ → List A → ℕ
  tally f i [] = 0
  tally f i (x ∷ xs) = f i x + tally f (suc i) xs

  -- f from, f (from + 1), .. : n of them
  unfoldable pub table : ℕ → ℕ → (ℕ → A) → List A
  table zero from f = []
  table (suc n) from f = f from ∷ table n (suc from) f

  -- n parts of m elements each, from the front; where the string ends the parts are short
  unfoldable pub parts : ℕ → ℕ → List A → List (List A)
  parts zero m s = []
  parts (suc n) m s = take m s ∷ parts n m (drop m s)

  -- parts laid end to end
  unfoldable pub end_to_end : List (List A) → List A
  end_to_end [] = []
  end_to_end (x ∷ xs) = x ++ end_to_end xs

-- each of some has a property
pub data All {A : Type 0} (P : A → Type 0) : List A → Type 0 where
  empty : All P []
  and : {x : A} {xs : List A} → P x → All P xs → All P (x ∷ xs)

-- each number of a string is a byte
abbrev pub Bytes : List ℕ → Type 0
Bytes s = All (λ (b : ℕ). b < 256) s
