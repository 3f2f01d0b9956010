-- Pictures: a picture has w × h reduced pixels, each below 256.
use Prim.Native.Nat.{ℕ, zero, suc, ◌*◌, ◌^◌, ◌≤◌, ◌<◌}
use native.Mathlib.Omega.{arith}
use native.Mathlib.Decide.{dec_le}
use borrow.Author.Tests.{lt-ltb, le-ltb}
use native.Mathlib.Nat.{lt_of_not-le, div-lt_iff_lt-mul, mul_comm, suc-mul, zero-mul, pow-suc, mul_left_comm}
use native.Mathlib.Nat.{mul-mul-mul_comm}
use mathlib.Core.Path.{◌≡◌, refl, sym, ◌∙◌}
use mathlib.Core.List.{List, [], ◌∷◌, ◌++◌, map}
use lib.ListN.{length, take, drop, length-append}
use Rattle.rules.specs.declared.Opening.{Opening}
use Rattle.rules.specs.Bytes.{total, table, parts, end_to_end, All, empty, and, Bytes}
use Rattle.rules.specs.Opening.{level, side, area, columns, lines}
use Rattle.rules.specs.Refusals.{Fault, fault}
use Rattle.rules.specs.Pictures.{picture_size, luma_fault, rows, band, block_sum, pixel_in, pixel_line, pixels}
use Rattle.rules.proofs.Laws.Lists.{all_drop, length-table}

-- ---- how many

lines-length : (n from m : ℕ) (f : ℕ → List ℕ) → ((i : ℕ) → length (f i) ≡ m) →
    length (end_to_end (table n from f)) ≡ n * m
unfolding end_to_end table
lines-length zero from m f e = sym (zero-mul m)
lines-length (suc n) from m f e =
    let a = e from in
    let b = lines-length n (suc from) m f e in
    rw (length-append, suc-mul n m) (omega arith)

pub pixels-length : (o : Opening) (picture : List ℕ) → length (pixels o picture) ≡ columns o * lines o
unfolding pixels pixel_line
pixels-length o picture =
    lines-length (lines o) 0 (columns o) (λ r. pixel_line o (band o picture r))
    (λ r. length-table (columns o) 0 (pixel_in o (band o picture r)))
    ∙ mul_comm (lines o) (columns o)

-- ---- how large

pub bytes_take : (n : ℕ) (s : List ℕ) → Bytes s → Bytes (take n s)
bytes_take zero s h = empty
bytes_take (suc n) [] empty = empty
bytes_take (suc n) (b ∷ s) (and h hs) = and h (bytes_take n s hs)

pub bytes_drop : (n : ℕ) (s : List ℕ) → Bytes s → Bytes (drop n s)
bytes_drop zero s h = h
bytes_drop (suc n) [] empty = empty
bytes_drop (suc n) (b ∷ s) (and h hs) = bytes_drop n s hs

pub bytes-append : (s t : List ℕ) → Bytes s → Bytes t → Bytes (s ++ t)
bytes-append [] t empty h = h
bytes-append (b ∷ s) t (and g gs) h = and g (bytes-append s t gs h)

-- n bytes add up to less than 256 n, or are none
total-small : (n : ℕ) (s : List ℕ) → Bytes s → total (take n s) ≤ 255 * n
unfolding total
total-small zero s h = omega arith
total-small (suc n) [] empty = omega arith
total-small (suc n) (b ∷ s) (and h hs) = let k = total-small n s hs in omega arith

pub all-parts : (n m : ℕ) (s : List ℕ) → Bytes s → All Bytes (parts n m s)
unfolding parts
all-parts zero m s h = empty
all-parts (suc n) m s h = and (bytes_take m s h) (all-parts n m (drop m s) (bytes_drop m s h))

-- n rows of m bytes of a block
block-small : (n m j : ℕ) (rs : List (List ℕ)) → All Bytes rs →
    total (map (λ (row : List ℕ). total (take m (drop j row))) (take n rs)) ≤ n * (255 * m)
unfolding total
block-small zero m j rs h = omega arith
block-small (suc n) m j [] empty = omega arith
block-small (suc n) m j (r ∷ rs) (and h hs) =
    let a = total-small m (drop j r) (bytes_drop j r h) in
    let b = block-small n m j rs hs in
    rw (suc-mul n (255 * m)) (omega arith)

-- 4^k = 2^k × 2^k
pub four : (k : ℕ) → 4 ^ k ≡ 2 ^ k * 2 ^ k
four zero = refl
four (suc k) = rw (pow-suc 4 k, pow-suc 2 k, four k, mul-mul-mul_comm (2 ^ k) 2 (2 ^ k) 2)

some : (k : ℕ) → 0 < 4 ^ k
some zero = omega arith
some (suc k) = let h = some k in rw (pow-suc 4 k) (omega arith)

pub pixel-small : (o : Opening) (picture : List ℕ) → Bytes picture → (r c : ℕ) → pixel_in o (band o picture r) c < 256
unfolding pixel_in block_sum band rows area side
pixel-small o picture h r c =
    let k = level o in
    let rs = drop (r * 2 ^ k) (parts o.height o.width picture) in
    let a =
    block-small (2 ^ k) (2 ^ k) (c * 2 ^ k) rs (all_drop (r * 2 ^ k) (all-parts o.height o.width picture h)) in
    let p = some k in
    let e : 2 ^ k * (255 * 2 ^ k) ≡ 255 * 4 ^ k = rw (four k) (mul_left_comm (2 ^ k) 255 (2 ^ k)) in
    (div-lt_iff_lt-mul {k = 4 ^ k}
    {x = total (map (λ (row : List ℕ). total (take (2 ^ k) (drop (c * 2 ^ k) row))) (take (2 ^ k) rs))}
    {y = 256} p).1 (omega arith)

all-table : (n from : ℕ) (f : ℕ → ℕ) → ((i : ℕ) → f i < 256) → Bytes (table n from f)
unfolding table
all-table zero from f e = empty
all-table (suc n) from f e = and (e from) (all-table n (suc from) f e)

all_lines : (n from : ℕ) (f : ℕ → List ℕ) → ((i : ℕ) → Bytes (f i)) → Bytes (end_to_end (table n from f))
unfolding table end_to_end
all_lines zero from f e = empty
all_lines (suc n) from f e =
    bytes-append (f from) (end_to_end (table n (suc from) f)) (e from) (all_lines n (suc from) f e)

pub pixels-small : (o : Opening) (picture : List ℕ) → Bytes picture → Bytes (pixels o picture)
unfolding pixels pixel_line
pixels-small o picture h = all_lines (lines o) 0 (λ r. pixel_line o (band o picture r))
    (λ r. all-table (columns o) 0 (pixel_in o (band o picture r)) (pixel-small o picture h r))

-- ---- refusal 10 stays

pub luma-kept : (o : Opening) (s t : List ℕ) (k p : ℕ) → luma_fault o s ≡ fault k p →
    luma_fault o (s ++ t) ≡ fault k p
unfolding luma_fault
luma-kept o s t k p h = elim (dec_le (length s) (750 * picture_size o)) [
  | yes g ↦
      let e : Fault.none ≡ fault k p = rw (le-ltb (750 * picture_size o) (length s) g) at h in
      let z : ◌≡◌ {A = ℕ} 0 1 = cc in
      absurd (omega arith)
  | no g ↦
      let e : fault 10 (750 * picture_size o) ≡ fault k p =
      rw (lt-ltb (750 * picture_size o) (length s) (lt_of_not-le g)) at h in
      rw (lt-ltb (750 * picture_size o) (length (s ++ t)) (simp length-append (omega (arith, lt_of_not-le g)))) e
]
