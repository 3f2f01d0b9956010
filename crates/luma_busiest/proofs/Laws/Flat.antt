-- Lists of one value, n times: their parts, sums and bins.
use Prim.Native.Nat.{ℕ, zero, suc, ◌+◌, ◌-◌, ◌*◌, ◌≤◌, ◌<◌}
use native.Mathlib.Omega.{arith}
use native.Mathlib.Nat.{suc-mul, zero-mul}
use mathlib.Core.Path.{◌≡◌, refl, ap}
use mathlib.Core.Bool.{Bool, true, false}
use mathlib.Core.List.{List, ◌∷◌, map}
use lib.ListN.{length, take, drop, replicate, replicate-append-replicate, length-append}
use lib.Seq.{take_at, drop_at}
use Rattle.rules.specs.Bytes.{pick, total, count, table, parts, end_to_end, Bytes, empty, and}
use Rattle.luma_laws.proofs.Pictures.{bytes-append}

module _ {ℓ} {A : Type ℓ} where
  pub flat-take : (k n : ℕ) (a : A) → k ≤ n → take k (replicate n a) ≡ replicate k a
  flat-take zero n a h = refl
  flat-take (suc k) zero a h = absurd (omega arith)
  flat-take (suc k) (suc n) a h = ap (λ (r : List A). a ∷ r) (flat-take k n a (omega arith))

  pub flat-drop : (k n : ℕ) (a : A) → drop k (replicate (k + n) a) ≡ replicate n a
  flat-drop zero n a = let e : 0 + n ≡ n = omega arith in rw e
  flat-drop (suc k) n a = let e : suc k + n ≡ suc (k + n) = omega arith in rw e (flat-drop k n a)

  -- k of them from place i on
  pub flat-part : (i k n : ℕ) (a : A) → i + k ≤ n → take k (drop i (replicate n a)) ≡ replicate k a
  flat-part i k n a h =
      let e : n ≡ i + (n - i) = omega arith in
      rw (e, flat-drop i (n - i) a) (flat-take k (n - i) a (omega arith))

  -- h rows of w
  pub flat_rows : (h w : ℕ) (a : A) → parts h w (replicate (h * w) a) ≡ replicate h (replicate w a)
  unfolding parts
  flat_rows zero w a = refl
  flat_rows (suc h) w a =
      let e : suc h * w ≡ w + h * w = omega (arith, suc-mul h w) in
      rw (e, flat-take w (w + h * w) a (omega arith), flat-drop w (h * w) a, flat_rows h w a)

  pub joined_length : (n from m : ℕ) (f : ℕ → List A) → ((i : ℕ) → length (f i) ≡ m) →
      length (end_to_end (table n from f)) ≡ n * m
  unfolding end_to_end table
  joined_length zero from m f e = rw (zero-mul m)
  joined_length (suc n) from m f e =
      rw (length-append, suc-mul n m) (omega (arith, e from, joined_length n (suc from) m f e))

  -- lists of m elements laid end to end have these for their parts
  pub parts-joined : (n from m : ℕ) (f : ℕ → List A) → ((i : ℕ) → length (f i) ≡ m) →
      parts n m (end_to_end (table n from f)) ≡ table n from f
  unfolding parts end_to_end table
  parts-joined zero from m f e = refl
  parts-joined (suc n) from m f e =
      let rest = end_to_end (table n (suc from) f) in
      rw (take_at (f from) rest m (e from), drop_at (f from) rest m (e from), parts-joined n (suc from) m f e)

  -- tables and lines of one value
  pub flat-table : (n from : ℕ) (f : ℕ → A) (a : A) → ((i : ℕ) → i < from + n → f i ≡ a) →
      table n from f ≡ replicate n a
  unfolding table
  flat-table zero from f a e = refl
  flat-table (suc n) from f a e = cc (e from (omega arith), flat-table n (suc from) f a (λ i h. e i (omega arith)))

  pub flat-lines : (n from m : ℕ) (f : ℕ → List A) (a : A) → ((i : ℕ) → i < from + n → f i ≡ replicate m a) →
      end_to_end (table n from f) ≡ replicate (n * m) a
  unfolding table end_to_end
  flat-lines zero from m f a e = rw (zero-mul m)
  flat-lines (suc n) from m f a e =
      let size : suc n * m ≡ m + n * m = omega (arith, suc-mul n m) in
      let rest = flat-lines n (suc from) m f a (λ i h. e i (omega arith)) in
      rw (size, e from (omega arith), rest) (replicate-append-replicate m (n * m) a)

  pub flat_map {ℓ'} : {B : Type ℓ'} (f : A → B) (n : ℕ) (a : A) → map f (replicate n a) ≡ replicate n (f a)
  flat_map f zero a = refl
  flat_map {B = B} f (suc n) a = ap (λ (r : List B). f a ∷ r) (flat_map f n a)

pub flat-total : (n v : ℕ) → total (replicate n v) ≡ n * v
unfolding total
flat-total zero v = rw (zero-mul v)
flat-total (suc n) v = omega (arith, flat-total n v, suc-mul n v)

pub flat-count : {A : Type 0} (test : A → Bool) (n : ℕ) (a : A) (b : Bool) → test a ≡ b →
    count test (replicate n a) ≡ pick b n 0
unfolding count
flat-count test zero a true e = refl
flat-count test zero a false e = refl
flat-count test (suc n) a true e = let h = flat-count test n a true e in rw e (omega arith)
flat-count test (suc n) a false e = let h = flat-count test n a false e in rw e (omega arith)

-- bytes
pub flat-bytes : (n v : ℕ) → v < 256 → Bytes (replicate n v)
flat-bytes zero v h = empty
flat-bytes (suc n) v h = and h (flat-bytes n v h)

pub joined_bytes : (n from : ℕ) (f : ℕ → List ℕ) → ((i : ℕ) → Bytes (f i)) → Bytes (end_to_end (table n from f))
unfolding end_to_end table
joined_bytes zero from f h = empty
joined_bytes (suc n) from f h =
    bytes-append (f from) (end_to_end (table n (suc from) f)) (h from) (joined_bytes n (suc from) f h)
