-- What moves from one picture to the next, as tallies over the new picture's pixels. A pixel's difference e,
-- the new one less the old one, is signed: it is `rise` where it is positive and `- fall` where it is
-- negative, and one of the two is 0.
use Prim.Native.Nat.{ℕ, zero, suc, ◌+◌, ◌-◌, ◌*◌, ◌≤◌, ◌<◌}
use native.Mathlib.Omega.{arith}
use native.Mathlib.Nat.{mul-suc, suc-add, mul-le-mul, mul-pos}
use mathlib.Core.Path.{◌≡◌, refl, sym}
use mathlib.Core.Bool.{Bool, true, false, ◌&&◌}
use mathlib.Core.List.{List, [], ◌∷◌}
use lib.ListN.{length, get_or}
use lib.Dec.{eqb}
use borrow.Author.Tests.{eqb-true, eqb-false, ne_eqb}
use Rattle.rules.specs.Bytes.{total, tally, apart, empty, and, Bytes}
use Rattle.rules.specs.Changes.{same, squares, spread}
use Rattle.luma_laws.specs.Tallies.{rise, fall, square, ups, downs, squared}
use Rattle.luma_laws.proofs.Tally.{tally-shift}

-- ---- bounds, so that 32 bits hold each of the three

-- bytes that give at most k each
bytes_most : (f : ℕ → ℕ → ℕ) (k q : ℕ) (t : List ℕ) → Bytes t → ((i v : ℕ) → v < 256 → f i v ≤ k) →
    tally f q t ≤ k * length t
unfolding tally
bytes_most f k q [] empty h = omega arith
bytes_most f k q (v ∷ t) (and b bs) h = omega (arith, h q v b, bytes_most f k (suc q) t bs h, mul-suc k (length t))

pub byte_at : (s : List ℕ) (i : ℕ) → Bytes s → get_or s i 0 < 256
byte_at [] i empty = omega arith
byte_at (b ∷ s) zero (and h hs) = h
byte_at (b ∷ s) (suc i) (and h hs) = byte_at s i hs

pub ups-most : (old new : List ℕ) → Bytes new → ups old new ≤ 255 * length new
ups-most old new h = bytes_most (rise old) 255 0 new h (λ i v b. omega arith)

pub downs-most : (old new : List ℕ) → Bytes old → Bytes new → downs old new ≤ 255 * length new
downs-most old new g h = bytes_most (fall old) 255 0 new h (λ i v b. omega (arith, byte_at old i g))

pub squared-most : (old new : List ℕ) → Bytes old → Bytes new → squared old new ≤ 65025 * length new
squared-most old new g h =
    bytes_most (square old) 65025 0 new h
    (λ i v b.
    let e : rise old i v + fall old i v ≤ 255 = omega (arith, byte_at old i g) in
    mul-le-mul e e)

-- ---- the rule's sums are these tallies

-- the pictures without their first pixels
behind : (g : ℕ → ℕ → ℕ) (x q : ℕ) (xs t : List ℕ) →
    tally (λ i v. g (get_or (x ∷ xs) i 0) v) (suc q) t ≡ tally (λ i v. g (get_or xs i 0) v) q t
behind g x q xs t =
    tally-shift (λ i v. g (get_or (x ∷ xs) i 0) v) (λ i v. g (get_or xs i 0) v) (suc q) q t
    (λ j v k. rw (suc-add q j))

pub squares-are : (old new : List ℕ) → length new ≤ length old → squares old new ≡ squared old new
unfolding squares tally
squares-are [] [] h = refl
squares-are [] (y ∷ ys) h = absurd (omega arith)
squares-are (x ∷ xs) [] h = refl
squares-are (x ∷ xs) (y ∷ ys) h =
    let e : apart x y ≡ y - x + (x - y) = omega arith in
    let more = behind (λ a v. (v - a + (a - v)) * (v - a + (a - v))) x 0 xs ys in
    rw e (omega (arith, squares-are xs ys (omega arith)))

-- the sum of e is the new total less the old one
pub totals-are : (old new : List ℕ) → length old ≡ length new → total new + downs old new ≡ total old + ups old new
unfolding total tally
totals-are [] [] h = refl
totals-are [] (y ∷ ys) h = absurd (omega arith)
totals-are (x ∷ xs) [] h = absurd (omega arith)
totals-are (x ∷ xs) (y ∷ ys) h =
    omega (arith, totals-are xs ys (omega arith), behind (λ a v. v - a) x 0 xs ys, behind (λ a v. a - v) x 0 xs ys)

pub apart-are : (old new : List ℕ) → length old ≡ length new →
    apart (total old) (total new) ≡ apart (ups old new) (downs old new)
apart-are old new h = omega (arith, totals-are old new h)

-- V
pub spread-are : (old new : List ℕ) → length old ≡ length new →
    spread old new
    ≡ length new * squared old new - apart (ups old new) (downs old new) * apart (ups old new) (downs old new)
unfolding spread
spread-are old new h = rw (squares-are old new (omega arith), apart-are old new h)

-- a picture is repeated if the sum of e² is 0
pub same-squares : (old new : List ℕ) → length old ≡ length new → same old new ≡ eqb (squares old new) 0
unfolding same squares
same-squares [] [] h = refl
same-squares [] (y ∷ ys) h = absurd (omega arith)
same-squares (x ∷ xs) [] h = absurd (omega arith)
same-squares (x ∷ xs) (y ∷ ys) h = go (eqb x y) refl (same-squares xs ys (omega arith))
  where
    go : (b : Bool) → eqb x y ≡ b → same xs ys ≡ eqb (squares xs ys) 0 →
        b && same xs ys ≡ eqb (apart x y * apart x y + squares xs ys) 0
    go true e s =
        let empty : apart x y ≡ 0 = omega (arith, eqb-true x y e) in
        let rest : apart x y * apart x y + squares xs ys ≡ squares xs ys = rw empty (omega arith) in
        rw rest s
    go false e s =
        let some : 0 < apart x y = omega (arith, eqb-false x y e) in
        let more = mul-pos some some in
        sym (ne_eqb (apart x y * apart x y + squares xs ys) 0 (λ z. omega arith))
