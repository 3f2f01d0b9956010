-- The bytes of a frame that go on: they fit the frame, and its header shows no refusal.
use Rattle.std.proofs.Common.{◌≡◌, ℕ, ◌+◌, ◌<◌, ◌≤◌, List, [], ◌∷◌, ◌++◌, length, arith, length-append}
use native.Mathlib.Decide.{dec_le}
use lib.ListN.{get_or-append}
use Rattle.rules.specs.Bytes.{word32}
use Rattle.rules.specs.Frames.{microseconds, stored_length, frame_size}
use Rattle.capture_laws.specs.UnderWay.{Fine}
use Rattle.capture_laws.proofs.Frames.{size-least, size-append}
use Rattle.capture_steps.specs.Contract.{Within}

pub longer : (r : List ℕ) (b : ℕ) → length (r ++ b ∷ []) ≡ length r + 1
longer r b = length-append r (b ∷ [])

pub fits-skip : (r t : List ℕ) → 16 ≤ length r → length r + length t ≤ frame_size r →
    length (r ++ t) ≤ frame_size (r ++ t)
fits-skip r t h k =
    let e = size-append r t h in
    let l = length-append r t in
    omega arith

pub size_is : (r : List ℕ) → frame_size r ≡ 16 + stored_length r
unfolding frame_size
size_is r = omega arith

module _ (r t : List ℕ) where
  pub micro-more : 8 ≤ length r → microseconds (r ++ t) ≡ microseconds r
  unfolding microseconds word32
  micro-more h =
      rw (
        get_or-append r t 0 4 (omega arith),
        get_or-append r t 0 5 (omega arith),
        get_or-append r t 0 6 (omega arith),
        get_or-append r t 0 7 (omega arith),
      )

  pub stored_more : 12 ≤ length r → stored_length (r ++ t) ≡ stored_length r
  unfolding stored_length word32
  stored_more h =
      rw (
        get_or-append r t 0 8 (omega arith),
        get_or-append r t 0 9 (omega arith),
        get_or-append r t 0 10 (omega arith),
        get_or-append r t 0 11 (omega arith),
      )

  pub fine-skip : 12 ≤ length r → Fine r → Fine (r ++ t)
  fine-skip h f =
      record {
        time = λ k. let e = micro-more (omega arith) in let g = f.time (omega arith) in omega arith;
        size = λ k. let e = stored_more h in let g = f.size h in omega arith;
      }

-- bytes up to the end of a field
module _ (r t : List ℕ) (size : ℕ) (f : Fine r) (v : Within (length r) size (length t)) where
  total : length (r ++ t) ≡ length r + length t
  total = length-append r t

  pub fits-run : length r < frame_size r → (12 ≤ length r → size ≡ stored_length r) →
      length (r ++ t) ≤ frame_size (r ++ t)
  fits-run short known = elim (dec_le 16 (length r)) [
    | yes h ↦
        let e = size-append r t h in
        let k = known (omega arith) in
        let g = f.size (omega arith) in
        let i = size_is r in
        let m = v.frame h (omega arith) (omega arith) in
        omega (arith, total)
    | no h ↦ let m = v.header (omega arith) in let e = size-least (r ++ t) in omega (arith, total)
  ]

pub within-header : {at size n : ℕ} → at + n ≤ 16 → Within at size n
within-header h = record { header = λ k. h; front = omega arith; frame = λ a b c. omega arith }

-- of a value that another equals
pub lt_of : {x y : ℕ} (n : ℕ) → x ≡ y → n < x → n < y
lt_of n e h = omega arith

pub le_of : {x y : ℕ} (n : ℕ) → x ≡ y → x ≤ n → y ≤ n
le_of n e h = omega arith
