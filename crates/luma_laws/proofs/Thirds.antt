-- A tile's size is its rows times its columns, so that no tile is empty.
use Prim.Native.Nat.{ℕ, zero, suc, ◌+◌, ◌-◌, ◌*◌, ◌/◌, ◌%◌, ◌≤◌, ◌<◌}
use native.Mathlib.Omega.{arith}
use native.Mathlib.Nat.{zero-add, add-mul, suc-mul, zero-mul, mul-one, mul-pos, mul-le-mul_right, div-eq_of_lt-le}
use native.Mathlib.Nat.{div-lt_iff_lt-mul, le-div_iff_mul-le}
use mathlib.Core.Path.{◌≡◌, refl, ◌∙◌}
use mathlib.Core.Bool.{Bool, true, false}
use mathlib.Core.List.{List, []}
use lib.ListN.{length, take, drop, length-drop, drop_of_length-le}
use lib.Seq.{length-take-le}
use lib.Dec.{eqb}
use borrow.Author.Tests.{eq-eqb, ne_eqb, eqb-true, eqb-false}
use Rattle.rules.specs.Bytes.{pick, tally, parts}
use Rattle.rules.specs.Histograms.{third, tile_at}
use Rattle.luma_laws.proofs.Tables.{parts-length}
use Rattle.luma_laws.proofs.Tally.{tally-shift, tally-none, tally-span}
use Rattle.luma_laws.proofs.Blocks.{row_of, column-of, by_rows}
use Rattle.luma_laws.proofs.Histograms.{third-small}
use Rattle.luma_laws.proofs.Tiles.{tile_tally}

-- the first of n rows (or columns) that lies in third j; n itself for j = 3
abbrev pub third_from : ℕ → ℕ → ℕ
third_from n j = (j * n + 2) / 3

-- how many of n rows (or columns) lie in third j
abbrev pub third_size : ℕ → ℕ → ℕ
third_size n j = third_from n (j + 1) - third_from n j

third-is : (n j i : ℕ) → third_from n j ≤ i → i < third_from n (j + 1) → third n i ≡ j
unfolding third
third-is n j i low high = div-eq_of_lt-le n (omega arith) (omega (arith, add-mul j 1 n))

third-before : (n j i : ℕ) → 0 < n → i < third_from n j → third n i < j
unfolding third
third-before n j i some h = (div-lt_iff_lt-mul some).1 (omega arith)

third-after : (n j i : ℕ) → 0 < n → third_from n (j + 1) ≤ i → j + 1 ≤ third n i
unfolding third
third-after n j i some h = (le-div_iff_mul-le some).1 (omega arith)

third-some : (n j : ℕ) → 3 ≤ n → 0 < third_size n j
third-some n j h = omega (arith, add-mul j 1 n)

third_last : (n j : ℕ) → j < 3 → third_from n j + third_size n j ≤ n
third_last n j h =
    let up : j + 1 ≤ 3 = omega arith in
    omega (arith, add-mul j 1 n, mul-le-mul_right n up)

-- k for each place in third j
thirds : {A : Type 0} (n j k : ℕ) (t : List A) → 0 < n → j < 3 → length t ≡ n →
    tally (λ i a. pick (eqb (third n i) j) k 0) 0 t ≡ third_size n j * k
thirds n j k t some h e =
    let next : third_from n j + third_size n j ≡ third_from n (j + 1) = omega (arith, add-mul j 1 n) in
    tally-span (λ i a. pick (eqb (third n i) j) k 0) (third_from n j) (third_size n j) k t
    (omega (arith, third_last n j h))
    (λ i a l. rw (ne_eqb (third n i) j (λ z. omega (arith, third-before n j i some l))))
    (λ i a l m. rw (eq-eqb (third n i) j (third-is n j i l (omega arith))))
    (λ i a l. rw (ne_eqb (third n i) j (λ z. omega (arith, third-after n j i some (omega arith)))))

-- the tile of column c of row r
pub tile-of : (w h r c : ℕ) → c < w → tile_at w h (r * w + c) ≡ 3 * third h r + third w c
unfolding tile_at
tile-of w h r c k = rw (row_of w r c k, column-of w r c k)

-- what row r gives to the tile in tile row j and tile column k
from_line : ℕ → ℕ → ℕ → ℕ → ℕ → List ℕ → ℕ
from_line w h j k r line = pick (eqb (third h r) j) (tally (λ c v. pick (eqb (third w c) k) 1 0) 0 line) 0

line_gives : (w h j k r : ℕ) (line : List ℕ) → k < 3 → length line ≤ w →
    tally (λ i v. pick (eqb (tile_at w h i) (3 * j + k)) 1 0) (r * w) line ≡ from_line w h j k r line
unfolding from_line
line_gives w h j k r line hk e =
    tally-shift (λ i v. pick (eqb (tile_at w h i) (3 * j + k)) 1 0)
    (λ c v. pick (eqb (third h r) j) (pick (eqb (third w c) k) 1 0) 0) (r * w) 0 line
    (λ c v l. rw (tile-of w h r c (omega arith), zero-add c)
    (both (third h r) (third w c) (third-small w c (omega arith)) (eqb (third h r) j) (eqb (third w c) k) refl refl))
    ∙ go (eqb (third h r) j)
  where
    both : (a b : ℕ) → b < 3 → (x y : Bool) → eqb a j ≡ x → eqb b k ≡ y →
        ◌≡◌ {A = ℕ} (pick (eqb (3 * a + b) (3 * j + k)) 1 0) (pick x (pick y 1 0) 0)
    both a b hb true true ex ey =
        rw (eq-eqb (3 * a + b) (3 * j + k) (omega (arith, eqb-true a j ex, eqb-true b k ey)))
    both a b hb true false ex ey =
        rw (ne_eqb (3 * a + b) (3 * j + k) (λ z. eqb-false b k ey (omega (arith, eqb-true a j ex))))
    both a b hb false y ex ey = rw (ne_eqb (3 * a + b) (3 * j + k) (λ z. eqb-false a j ex (omega arith)))

    go : (own : Bool) →
        tally (λ c v. pick own (pick (eqb (third w c) k) 1 0) 0) 0 line
        ≡ pick own (tally (λ c v. pick (eqb (third w c) k) 1 0) 0 line) 0
    go true = refl
    go false = tally-none (λ c v. 0) 0 line (λ i v l. refl)

-- lines of w pixels give alike
lines-give : (w h j k r m : ℕ) (p : List ℕ) → 0 < w → k < 3 → length p ≡ m * w →
    tally (from_line w h j k) r (parts m w p)
    ≡ tally (λ y line. pick (eqb (third h y) j) (third_size w k) 0) r (parts m w p)
unfolding tally parts from_line
lines-give w h j k r zero p some hk e = refl
lines-give w h j k r (suc m) p some hk e =
    let size : length p ≡ m * w + w = omega (arith, suc-mul m w) in
    let first : length (take w p) ≡ w = length-take-le w p (omega arith) in
    let rest : length (drop w p) ≡ m * w = simp length-drop (omega arith) in
    let own : tally (λ c v. pick (eqb (third w c) k) 1 0) 0 (take w p) ≡ third_size w k =
    thirds w k 1 (take w p) some hk first ∙ mul-one (third_size w k) in
    rw own (omega (arith, lines-give w h j k (suc r) m (drop w p) some hk rest))

-- n of the tile in tile row j and tile column k
pub tile-size : (w h j k : ℕ) (p : List ℕ) → 0 < w → 0 < h → j < 3 → k < 3 → length p ≡ h * w →
    tile_tally w h (3 * j + k) p ≡ third_size h j * third_size w k
tile-size w h j k p sw sh hj hk e =
    let F : ℕ → ℕ → ℕ = λ i v. pick (eqb (tile_at w h i) (3 * j + k)) 1 0 in
    let rows = parts h w p in
    let all = by_rows F (from_line w h j k) w (λ r line l. line_gives w h j k r line hk l) h 0 p in
    let none : tally F ((0 + h) * w) (drop (h * w) p) ≡ 0 = rw (drop_of_length-le p {i = h * w} (omega arith))
    (tally-none F ((0 + h) * w) [] (λ i v l. absurd (omega arith))) in
    let own : tally (from_line w h j k) 0 rows ≡ third_size h j * third_size w k =
    lines-give w h j k 0 h p sw hk e ∙ thirds h j (third_size w k) rows sh hj (parts-length h w p) in
    omega (arith, rw (zero-mul w) at all)

-- so no tile is empty
pub tile-some : (w h t : ℕ) (p : List ℕ) → 3 ≤ w → 3 ≤ h → t < 9 → length p ≡ h * w → 0 < tile_tally w h t p
tile-some w h t p hw hh ht e =
    let place : t ≡ 3 * (t / 3) + t % 3 = omega arith in
    let size = tile-size w h (t / 3) (t % 3) p (omega arith) (omega arith) (omega arith) (omega arith) e in
    let some = mul-pos (third-some h (t / 3) hh) (third-some w (t % 3) hw) in
    rw (place, size) some
