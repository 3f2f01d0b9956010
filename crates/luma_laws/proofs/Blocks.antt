-- A block's sum by membership: the sum of those bytes of a picture whose row lies in block row r and whose column in
-- block column c. Of a picture's first bytes it is the same sum over fewer bytes, so a picture that comes in pieces
-- has it at every moment.
use Prim.Native.Nat.{ℕ, zero, suc, ◌+◌, ◌*◌, ◌/◌, ◌%◌, ◌≤◌, ◌<◌}
use native.Mathlib.Omega.{arith}
use native.Mathlib.Nat.{mul_comm, mul-zero, one-le-pow, eq-zero-or-pos, mod-lt, div-add-mod', add-zero, zero-add}
use native.Mathlib.Nat.{add-mul, suc-mul, zero-mul, mul-le-mul_right, le-div_iff_mul-le, div-lt_iff_lt-mul}
use native.Mathlib.Nat.{div-eq_of_lt-le, mod-eq_of_lt, mul-add-mod_self_right}
use mathlib.Core.Path.{◌≡◌, refl, sym, ap, ◌∙◌}
use mathlib.Core.Logic.{◌⊎◌, inl, inr}
use mathlib.Core.Bool.{Bool, true, false}
use mathlib.Core.List.{List, ◌++◌, map}
use lib.ListN.{length, get_or, take, drop, length-take}
use lib.Seq.{drop-drop, take_all, length-take-le, get_or-take, ext_get_or}
use lib.Dec.{eqb}
use borrow.Author.Tests.{ne_eqb}
use Rattle.rules.specs.declared.Opening.{Opening}
use Rattle.rules.specs.Bytes.{pick, total, tally, parts, table}
use Rattle.rules.specs.Opening.{level, side, area, columns, lines}
use Rattle.rules.specs.Pictures.{rows, band, block_sum, pixel_in, pixel, pixel_line, pixels}
use Rattle.luma_laws.specs.Tallies.{in_block, block_tally}
use Rattle.rules.proofs.Laws.Lists.{length-table}
use Rattle.luma_laws.proofs.Tables.{get_or-table, get_or-lines}
use Rattle.luma_laws.proofs.Pictures.{four, pixels-length}
use Rattle.luma_laws.proofs.Tally.{tally-append, tally-split, tally-shift, tally-none, tally-all, tally-cut}
use Rattle.luma_laws.proofs.Tally.{tally-map}

-- ---- a picture that goes on

-- bytes of later block rows give nothing to block row r
pub later : (W n r c q : ℕ) (t : List ℕ) → 0 < n → 0 < W → (r * n + n) * W ≤ q → tally (in_block W n r c) q t ≡ 0
later W n r c q t hn hw h =
    tally-none (in_block W n r c) q t
    (λ j v k.
    let row : r * n + n ≤ (q + j) / W = (le-div_iff_mul-le hw).1 (omega arith) in
    let above : r + 1 ≤ (q + j) / W / n = (le-div_iff_mul-le hn).1 (omega (arith, add-mul r 1 n)) in
    rw (ne_eqb ((q + j) / W / n) r (λ e. omega arith)))

-- nor do those of earlier ones
pub earlier : (W n r c : ℕ) (p : List ℕ) → 0 < n → 0 < W → length p ≤ r * n * W → block_tally W n r c p ≡ 0
earlier W n r c p hn hw h =
    tally-none (in_block W n r c) 0 p
    (λ j v k.
    let row : (0 + j) / W < r * n = (div-lt_iff_lt-mul hw).1 (omega arith) in
    let above : (0 + j) / W / n < r = (div-lt_iff_lt-mul hn).1 (omega arith) in
    rw (ne_eqb ((0 + j) / W / n) r (λ e. omega arith)))

-- what is settled: once the block's rows are there, its sum stays
pub settled : (W n r c : ℕ) (p t : List ℕ) → 0 < n → 0 < W → (r * n + n) * W ≤ length p →
    block_tally W n r c (p ++ t) ≡ block_tally W n r c p
settled W n r c p t hn hw h =
    omega (arith, tally-append (in_block W n r c) 0 p t, later W n r c (0 + length p) t hn hw (omega arith))

-- ---- the rule's block sum, by rows and columns, is that tally

-- place x of row y
pub row_of : (W y x : ℕ) → x < W → (y * W + x) / W ≡ y
row_of W y x h = div-eq_of_lt-le W (omega arith) (omega (arith, add-mul y 1 W))

pub column-of : (W y x : ℕ) → x < W → (y * W + x) % W ≡ x
column-of W y x h = mul-add-mod_self_right y W x ∙ mod-eq_of_lt h

-- what row y gives to a block: those of its bytes that lie in the block's columns, if it is one of the block's rows
from_row : ℕ → ℕ → ℕ → ℕ → List ℕ → ℕ
from_row n r c y row = pick (eqb (y / n) r) (total (take n (drop (c * n) row))) 0

row_gives : (W n r c y : ℕ) (row : List ℕ) → 0 < n → length row ≤ W →
    tally (in_block W n r c) (y * W) row ≡ from_row n r c y row
unfolding from_row
row_gives W n r c y row some h =
    tally-shift (in_block W n r c) (λ x b. pick (eqb (y / n) r) (pick (eqb (x / n) c) b 0) 0) (y * W) 0 row
    (λ x b k. rw (row_of W y x (omega arith), column-of W y x (omega arith), zero-add x))
    ∙ go (eqb (y / n) r)
  where
    go : (own : Bool) →
        tally (λ x b. pick own (pick (eqb (x / n) c) b 0) 0) 0 row ≡ pick own (total (take n (drop (c * n) row))) 0
    go true = tally-cut n c (λ b. b) row some ∙ tally-all (λ i b. b) 0 (take n (drop (c * n) row)) (λ j b k. refl)
    go false = tally-none (λ x b. 0) 0 row (λ j b k. refl)

-- a tally by rows of W bytes, m of them, and what is left behind them
pub by_rows : (F : ℕ → ℕ → ℕ) (G : ℕ → List ℕ → ℕ) (W : ℕ) →
    ((y : ℕ) (row : List ℕ) → length row ≤ W → tally F (y * W) row ≡ G y row) → (m y : ℕ) (p : List ℕ) →
    tally F (y * W) p ≡ tally G y (parts m W p) + tally F ((y + m) * W) (drop (m * W) p)
unfolding tally parts
by_rows F G W e zero y p = rw (zero-mul W, add-zero y) (omega arith)
by_rows F G W e (suc m) y p =
    let first : tally F (y * W) (take W p) ≡ G y (take W p) = e y (take W p) (omega (arith, length-take W p)) in
    let next : y * W + W ≡ suc y * W = omega (arith, suc-mul y W) in
    let last : suc y + m ≡ y + suc m = omega arith in
    let behind : W + m * W ≡ suc m * W = omega (arith, suc-mul m W) in
    let rest = by_rows F G W e m (suc y) (drop W p) in
    omega (
      arith,
      tally-split F W (y * W) p,
      rw (last, drop-drop, behind) at rest,
      ap (λ (q : ℕ). tally F q (drop W p)) next,
    )

-- any size of picture, of rows and of blocks; bytes behind the H rows count in neither
pub sum-tally : (H W n r c : ℕ) (p : List ℕ) → 0 < n → 0 < W → r * n + n ≤ H →
    total (map (λ row. total (take n (drop (c * n) row))) (take n (drop (r * n) (parts H W p))))
    ≡ block_tally W n r c p
unfolding from_row
sum-tally H W n r c p some wide h =
    let g : List ℕ → ℕ = λ row. total (take n (drop (c * n) row)) in
    let rows = parts H W p in
    let own : tally (from_row n r c) 0 rows ≡ total (map g (take n (drop (r * n) rows))) =
    tally-cut n r g rows some ∙ tally-map g 0 (take n (drop (r * n) rows)) in
    let all = by_rows (in_block W n r c) (from_row n r c) W (λ y row k. row_gives W n r c y row some k) H 0 p in
    let none : tally (in_block W n r c) ((0 + H) * W) (drop (H * W) p) ≡ 0 =
    later W n r c ((0 + H) * W) (drop (H * W) p) some wide (mul-le-mul_right W (omega arith)) in
    omega (arith, rw (zero-mul W) at all)

-- ---- the reduced pixels of an opening's picture

pub side-some : (o : Opening) → 0 < side o
unfolding side
side-some o = omega (arith, one-le-pow (level o) 2 (omega arith))

pub area-side : (o : Opening) → area o ≡ side o * side o
unfolding area side
area-side o = four (level o)

-- a line's rows are among the picture's H
pub line-inside : (o : Opening) (r : ℕ) → r < lines o → r * side o + side o ≤ o.height
unfolding lines
line-inside o r h =
    let up : r + 1 ≤ o.height / side o = omega arith in
    let fits : (r + 1) * side o ≤ o.height = (le-div_iff_mul-le (side-some o)).0 up in
    omega (arith, add-mul r 1 (side o))

-- a column's bytes are among the row's W
pub column-inside : (o : Opening) (c : ℕ) → c < columns o → c * side o + side o ≤ o.width
unfolding columns
column-inside o c h =
    let up : c + 1 ≤ o.width / side o = omega arith in
    let fits : (c + 1) * side o ≤ o.width = (le-div_iff_mul-le (side-some o)).0 up in
    omega (arith, add-mul c 1 (side o))

-- the pixel in row r and column c
pixel-tally : (o : Opening) (p : List ℕ) (r c : ℕ) → r < lines o → c < columns o →
    pixel o p r c ≡ block_tally o.width (side o) r c p / (side o * side o)
unfolding pixel pixel_in block_sum band rows
pixel-tally o p r c h k =
    let some = side-some o in
    let wide : 0 < o.width = omega (arith, column-inside o c k) in
    let sum = sum-tally o.height o.width (side o) r c p some wide (line-inside o r h) in
    rw (area-side o, sum)

-- it stands at place r × w + c
pixels-at : (o : Opening) (p : List ℕ) (r c : ℕ) → r < lines o → c < columns o →
    get_or (pixels o p) (r * columns o + c) 0 ≡ pixel o p r c
unfolding pixels pixel_line pixel
pixels-at o p r c h k =
    get_or-lines (lines o) 0 (columns o) (λ y. table (columns o) 0 (pixel_in o (band o p y))) r c 0
    (λ y. length-table (columns o) 0 (pixel_in o (band o p y))) h k
    ∙ get_or-table (columns o) 0 (pixel_in o (band o p (0 + r))) c 0 k
    ∙ ap (λ (y : ℕ). pixel_in o (band o p y) (0 + c)) (zero-add r)
    ∙ ap (λ (x : ℕ). pixel_in o (band o p r) x) (zero-add c)

factor-some : (b w : ℕ) {i : ℕ} → i < b * w → 0 < w
factor-some b w {i} l = go (eq-zero-or-pos w)
  where
    go : (w ≡ 0) ⊎ (0 < w) → 0 < w
    go (inl z) = absurd (omega (arith, rw (z, mul-zero b) at l))
    go (inr s) = s

-- a list that has the first b rows of the pixels begins with them
rows_are : (o : Opening) (p m : List ℕ) (b : ℕ) → b ≤ lines o → b * columns o ≤ length m →
    ((r c : ℕ) → r < b → c < columns o →
    get_or m (r * columns o + c) 0 ≡ block_tally o.width (side o) r c p / (side o * side o)) →
    take (b * columns o) m ≡ take (b * columns o) (pixels o p)
rows_are o p m b few long e =
    let w = columns o in
    let all : b * w ≤ length (pixels o p) = rw (pixels-length o p, mul_comm w (lines o)) (mul-le-mul_right w few) in
    let mine : length (take (b * w) m) ≡ b * w = length-take-le (b * w) m long in
    let theirs : length (take (b * w) (pixels o p)) ≡ b * w = length-take-le (b * w) (pixels o p) all in
    ext_get_or 0 (take (b * w) m) (take (b * w) (pixels o p)) (mine ∙ sym theirs)
    (λ i h.
    let low : i < b * w = omega arith in
    let some : 0 < w = factor-some b w low in
    let r : i / w < b = (div-lt_iff_lt-mul some).1 low in
    let c : i % w < w = mod-lt i some in
    let place : i / w * w + i % w ≡ i = div-add-mod' i w in
    rw (get_or-take (b * w) m i 0 low, get_or-take (b * w) (pixels o p) i 0 low)
    (
    ap (λ (j : ℕ). get_or m j 0) (sym place)
    ∙ e (i / w) (i % w) r c
    ∙ sym (pixel-tally o p (i / w) (i % w) (omega arith) c)
    ∙ sym (pixels-at o p (i / w) (i % w) (omega arith) c)
    ∙ ap (λ (j : ℕ). get_or (pixels o p) j 0) place
    ))

-- and with all rows it begins with the picture's pixels
pub pixels-are : (o : Opening) (p m : List ℕ) → lines o * columns o ≤ length m →
    ((r c : ℕ) → r < lines o → c < columns o →
    get_or m (r * columns o + c) 0 ≡ block_tally o.width (side o) r c p / (side o * side o)) →
    take (lines o * columns o) m ≡ pixels o p
pixels-are o p m long e =
    rows_are o p m (lines o) (omega arith) long e
    ∙ take_all (lines o * columns o) (pixels o p) (omega (arith, pixels-length o p, mul_comm (lines o) (columns o)))
