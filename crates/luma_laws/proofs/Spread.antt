-- V and q of document 01: n times the sum of e² is at least the square of the sum of e, so that V's difference
-- is never cut off; and of pictures of bytes q is the greatest whole number that fits or, rounded, the
-- nearest, at most 25,500. For any n.
use Prim.Native.Nat.{ℕ, zero, suc, ◌+◌, ◌-◌, ◌*◌, ◌≤◌, ◌<◌}
use native.Mathlib.Omega.{arith}
use native.Mathlib.Nat.{mul-add, add-mul, mul_comm, mul_assoc, mul_left_comm, mul-zero, zero-mul, suc-mul, mul-pos}
use native.Mathlib.Nat.{mul-le-mul, mul-le-mul_left, le_of_mul-le-mul_left, le_trans}
use mathlib.Core.Path.{◌≡◌, refl, ap, ◌∙◌}
use mathlib.Core.Bool.{Bool, true, false}
use mathlib.Core.List.{List, [], ◌∷◌}
use lib.ListN.{length}
use lib.Dec.{leb}
use borrow.Author.Tests.{leb-true, leb-false}
use Rattle.rules.specs.Bytes.{total, tally, apart, Bytes}
use Rattle.rules.specs.Changes.{squares, spread, Nearest, change_from, change}
use Rattle.luma_laws.proofs.Tally.{tally-add}
use Rattle.luma_laws.specs.Tallies.{rise, fall, ups, downs, squared}
use Rattle.luma_laws.proofs.Moves.{squared-most, squares-are, apart-are}
use Rattle.luma_laws.proofs.Changes.{Root, root-greatest, nearest-is, root-most, nearest-most}

-- ---- the square of a sum

up_to : (x k : ℕ) → x * (x + k) + x * (x + k) ≤ x * x + (x + k) * (x + k)
up_to x k = omega (arith, mul-add x x k, add-mul x k (x + k), mul-add k x k, mul_comm k x)

twice : (x y : ℕ) → x * y + x * y ≤ x * x + y * y
twice x y = by (leb x y) refl
  where
    by : (r : Bool) → leb x y ≡ r → x * y + x * y ≤ x * x + y * y
    by true e =
        let h : x ≤ y = leb-true x y e in
        let z : y ≡ x + (y - x) = omega arith in
        rw z (up_to x (y - x))
    by false e =
        let h : y < x = leb-false x y e in
        let z : x ≡ y + (x - y) = omega arith in
        let u = up_to y (x - y) in
        omega (arith, mul_comm x y, rw (← z) at u)

half : (n a s d : ℕ) → a * a ≤ n * s → d * a + d * a ≤ n * (d * d) + s
half zero zero s d h = omega (arith, mul-zero d)
half zero (suc a) s d h =
    let some : 0 < suc a = omega arith in
    omega (arith, zero-mul s, mul-pos some some)
half (suc m) a s d h =
    let n = suc m in
    let some : 0 < n = omega arith in
    let cross : n * d * a ≡ n * (d * a) = mul_assoc n d a in
    let square : n * d * (n * d) ≡ n * (n * (d * d)) =
    mul_assoc n d (n * d) ∙ ap (λ (z : ℕ). n * z) (mul_left_comm d n d) in
    let big : n * (d * a + d * a) ≤ n * (n * (d * d) + s) =
    omega (arith, mul-add n (d * a) (d * a), mul-add n (n * (d * d)) s, twice (n * d) a) in
    le_of_mul-le-mul_left big some

grow : (n a s d : ℕ) → a * a ≤ n * s → (d + a) * (d + a) ≤ suc n * (d * d + s)
grow n a s d h =
    omega (
      arith,
      half n a s d h,
      add-mul d a (d + a),
      mul-add d d a,
      mul-add a d a,
      mul_comm a d,
      suc-mul n (d * d + s),
      mul-add n (d * d) s,
    )

-- (sum of f)² ≤ n × sum of f²
cauchy : (f : ℕ → ℕ → ℕ) (q : ℕ) (t : List ℕ) →
    tally f q t * tally f q t ≤ length t * tally (λ i v. f i v * f i v) q t
unfolding tally
cauchy f q [] = omega arith
cauchy f q (v ∷ t) =
    grow (length t) (tally f (suc q) t) (tally (λ i v. f i v * f i v) (suc q) t) (f q v) (cauchy f (suc q) t)

-- ---- V

-- (sum of e)² ≤ n × sum of e², with the tallies that a picture's pixels add to
never-cut : (old new : List ℕ) →
    apart (ups old new) (downs old new) * apart (ups old new) (downs old new) ≤ length new * squared old new
never-cut old new =
    let e = tally-add (rise old) (fall old) 0 new in
    let less : apart (ups old new) (downs old new) ≤ tally (λ i v. rise old i v + fall old i v) 0 new = omega arith in
    le_trans (mul-le-mul less less) (cauchy (λ i v. rise old i v + fall old i v) 0 new)

-- and with the rule's own: V is the whole difference
pub spread-whole : (old new : List ℕ) → length old ≡ length new →
    spread old new + apart (total old) (total new) * apart (total old) (total new) ≡ length new * squares old new
unfolding spread
spread-whole old new h =
    let less : apart (total old) (total new) * apart (total old) (total new) ≤ length new * squares old new =
    rw (apart-are old new h, squares-are old new (omega arith)) (never-cut old new) in
    omega arith

-- ---- q

-- V of pictures of n bytes
pub spread-most : (old new : List ℕ) → Bytes old → Bytes new → length old ≡ length new →
    spread old new ≤ 65025 * (length new * length new)
spread-most old new g h e =
    let most : squares old new ≤ 65025 * length new =
    rw (squares-are old new (omega arith)) (squared-most old new g h) in
    omega (
      arith,
      spread-whole old new e,
      mul-le-mul_left (length new) most,
      mul_left_comm (length new) 65025 (length new),
    )

-- q is the greatest whole number with q² × n² at most 10,000 × V
pub change-greatest : (old new : List ℕ) → Bytes old → Bytes new → length old ≡ length new → 0 < length new →
    Root (spread old new) (length new) (change false old new)
unfolding change change_from
change-greatest old new g h e some =
    let n = length new in
    root-greatest (spread old new) n
    (omega (arith, spread-most old new g h e, mul-pos some some, mul_assoc (65536 * 65536) n n))

-- rounded, it is the whole number nearest to the square root of 10,000 × V / n², the upper at a tie
pub change-nearest : (old new : List ℕ) → Bytes old → Bytes new → length old ≡ length new → 0 < length new →
    Nearest (spread old new) (length new) (change true old new)
unfolding change change_from
change-nearest old new g h e some =
    let n = length new in
    nearest-is (spread old new) n
    (omega (arith, spread-most old new g h e, mul-pos some some, mul_assoc (65536 * 65536) n n))

pub change-most : (rounds : Bool) (old new : List ℕ) → Bytes old → Bytes new → length old ≡ length new →
    0 < length new → change rounds old new ≤ 25500
change-most false old new g h e some = root-most (change-greatest old new g h e some) some (spread-most old new g h e)
change-most true old new g h e some =
    nearest-most (change-nearest old new g h e some) some (spread-most old new g h e)
