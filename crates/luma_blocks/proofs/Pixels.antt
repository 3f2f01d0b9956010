-- The end of a block row. No code.
use Prim.Native.Nat.{ℕ, zero, suc, ◌+◌, ◌-◌, ◌*◌, ◌/◌, ◌%◌, ◌^◌, ◌≤◌, ◌<◌, min}
use native.Mathlib.Omega.{arith}
use native.Mathlib.Nat.{add-zero, add-mul, mul-le-mul, mul-le-mul_right, suc-mul, add-suc, mul-pos, mod-eq_of_lt}
use native.Mathlib.Nat.{div-lt_iff_lt-mul, div-mul-le_self, lt-div-mul-add}
use mathlib.Core.Path.{◌≡◌, refl, sym, ap, ◌∙◌}
use mathlib.Core.Bool.{Bool, true, false}
use mathlib.Core.List.{List, [], ◌∷◌, ◌++◌}
use lib.ListN.{length, get_or, take, drop, set, length-drop, length-set, take-append-drop}
use lib.Dec.{eqb}
use lib.Seq.{length-take-le, get_or-set_same, get_or-set_other}
use borrow.Author.Count.{below_more}
use borrow.Author.Tests.{eqb-true}
use Rattle.rules.specs.Bytes.{pick, tally, empty, and, Bytes}
use Rattle.luma_laws.proofs.Pictures.{bytes_take, bytes_drop}
use Rattle.luma_laws.proofs.Tally.{tally-append}
use Rattle.luma_laws.specs.Tallies.{in_block, block_tally}
use Rattle.luma_laws.proofs.Blocks.{earlier, settled}
use Rattle.luma_sums.specs.Sums.{in_column}
use Rattle.luma_blocks.specs.Pixels.{Finished, RowDone}
use Rattle.luma_blocks.proofs.Rows.{bridge}

-- a run of a row gives a block column at most 255 a column of it that is not passed
column-most : (n c x : ℕ) (t : List ℕ) → 0 < n → Bytes t → tally (in_column n c) x t ≤ 255 * min n (c * n + n - x)
unfolding tally
column-most n c x [] hn empty = omega arith
column-most n c x (v ∷ t) hn (and h hs) = one (eqb (x / n) c) refl (column-most n c (suc x) t hn hs)
  where
    one : (r : Bool) → eqb (x / n) c ≡ r → tally (in_column n c) (suc x) t ≤ 255 * min n (c * n + n - suc x) →
        pick (eqb (x / n) c) v 0 + tally (in_column n c) (suc x) t ≤ 255 * min n (c * n + n - x)
    one true e k =
        let at : x / n ≡ c = eqb-true (x / n) c e in
        let lo : c * n ≤ x = rw at at (div-mul-le_self x n) in
        let hi : x < c * n + n = rw at at (lt-div-mul-add {a = x} hn) in
        rw e (omega (arith, h))
    one false e k = rw e (omega arith)

-- y rows of a block row give a block at most 255 a byte
rows-most : (W n b c y : ℕ) (p : List ℕ) → 0 < n → 0 < W → y ≤ n → length p ≡ (b * n + y) * W → Bytes p →
    block_tally W n b c p ≤ 255 * (y * n)
rows-most W n b c zero p hn hw h e k =
    let empty : block_tally W n b c p ≡ 0 = earlier W n b c p hn hw (omega (arith, rw (add-zero (b * n)) at e)) in
    omega arith
rows-most W n b c (suc y) p hn hw h e k =
    let m = (b * n + y) * W in
    let all : length p ≡ m + W = omega (arith, rw (add-suc (b * n) y, suc-mul (b * n + y) W) at e) in
    let size : length (take m p) ≡ m = length-take-le m p (omega arith) in
    let rest : length (drop m p) ≡ W = simp length-drop (omega arith) in
    let split : block_tally W n b c p
    ≡ block_tally W n b c (take m p) + tally (in_block W n b c) (0 + length (take m p)) (drop m p) =
    ap (block_tally W n b c) (sym (take-append-drop m p)) ∙ tally-append (in_block W n b c) 0 (take m p) (drop m p) in
    let first = rows-most W n b c y (take m p) hn hw (omega arith) size (bytes_take m p k) in
    let last = bridge W n b y 0 c (0 + length (take m p)) (drop m p) (omega arith) (omega arith) (omega arith) in
    let most = column-most n c 0 (drop m p) hn (bytes_drop m p k) in
    omega (arith, suc-mul y n)

-- a whole block: a pixel is a byte
pub pixel-small : (W n b c : ℕ) (p : List ℕ) → 0 < n → 0 < W → length p ≡ (b * n + n) * W → Bytes p →
    block_tally W n b c p ≤ 255 * (n * n)
pixel-small W n b c p hn hw e k = rows-most W n b c n p hn hw (omega arith) e k

-- ---- the loop

pub finished-none : (area base : ℕ) (p s : List ℕ) → Finished area base 0 p s p s
finished-none area base p s =
    record {
      pixels_size = refl;
      sums_size = refl;
      made = λ e j h. (omega arith, omega arith);
      before = λ q h. refl;
      after = λ q h. refl;
      cleared = λ e j h. omega arith;
      kept = λ j h. refl;
    }

pub finished-more : {area base i v : ℕ} {p s out left : List ℕ} → Finished area base i p s out left →
    base + i < 14104 → i < 240 →
    (v ≡ get_or left i 0 / area % 256) × (get_or left i 0 < 2 ^ 32) →
    Finished area base (i + 1) p s (set out (base + i) v) (set left i 0)
finished-more {area} {base} {i} {v} {p} {s} {out} {left} f h k e =
    record {
      pixels_size = length-set out (base + i) v ∙ f.pixels_size;
      sums_size = length-set left i 0 ∙ f.sums_size;
      made =
          λ z.
          below_more (λ (j : ℕ). (get_or (set out (base + i) v) (base + j) 0 ≡ get_or s j 0 / area % 256)
          × (get_or s j 0 < 2 ^ 32)) i
          (λ j l. (
            get_or-set_other out (base + i) (base + j) v 0 (λ m. omega arith) ∙ (f.made z j l).0,
            (f.made z j l).1,
          ))
          (rw (← f.kept i (omega arith)) (
            get_or-set_same out (base + i) v 0 (omega (arith, f.pixels_size)) ∙ e.0,
            e.1,
          ));
      before = λ q l. get_or-set_other out (base + i) q v 0 (λ m. omega arith) ∙ f.before q l;
      after = λ q l. get_or-set_other out (base + i) q v 0 (λ m. omega arith) ∙ f.after q (omega arith);
      cleared =
          λ z.
          below_more (λ (j : ℕ). get_or (set left i 0) j 0 ≡ 0) i
          (λ j l. get_or-set_other left i j 0 0 (λ m. omega arith) ∙ f.cleared z j l)
          (get_or-set_same left i 0 0 (omega (arith, f.sums_size)));
      kept = λ j l. get_or-set_other left i j 0 0 (λ m. omega arith) ∙ f.kept j (omega arith);
    }

-- ---- the block row

-- where the sum s, modulo 2 ^ 32, is a block's, its quotient is the pixel
exact : (n sum s : ℕ) → 0 < n → n ≤ 64 → sum ≤ 255 * (n * n) → s < 2 ^ 32 → s % 2 ^ 32 ≡ sum % 2 ^ 32 →
    s / (n * n) % 256 ≡ sum / (n * n)
exact n sum s hn hl h k e =
    let some : 0 < n * n = mul-pos hn hn in
    let most : n * n ≤ 64 * 64 = mul-le-mul hl hl in
    let same : s ≡ sum = omega arith in
    let small : sum / (n * n) < 256 = (div-lt_iff_lt-mul some).1 (omega arith) in
    rw (same, mod-eq_of_lt small)

pub row_done : {n w b : ℕ} {p s out left : List ℕ} → 0 < n → n ≤ 64 → Finished (n * n) (b * w) w p s out left →
    RowDone n w b p s out left
row_done {n} {w} {b} {p} {s} {out} {left} hn hl f =
    record {
      drawn =
          λ W q hw e k sums rows.
          record {
            size = f.pixels_size ∙ rows.size;
            each =
                λ r c hr hc t.
                below_more (λ (r : ℕ). get_or out (r * w + c) 0 ≡ block_tally W n r c (q ++ t) / (n * n)) b
                (λ r l.
                let up : r + 1 ≤ b = omega arith in
                f.before (r * w + c) (omega (arith, add-mul r 1 w, mul-le-mul_right w up)) ∙ rows.each r c l hc t)
                (
                (f.made rows.size c hc).0
                ∙ exact n (block_tally W n b c q) (get_or s c 0) hn hl (pixel-small W n b c q hn hw e k)
                (f.made rows.size c hc).1 (sums.each c hc)
                ∙ ap (λ (z : ℕ). z / (n * n)) (sym (settled W n b c q t hn hw (omega arith)))
                ) r hr;
          };
      next =
          λ W q hw e sums.
          let row : (b + 1) * n ≡ b * n + n = omega (arith, add-mul b 1 n) in
          record {
            size = f.sums_size ∙ sums.size;
            each =
                λ c hc. rw (f.cleared sums.size c hc, earlier W n (b + 1) c q hn hw (rw row (omega arith))) refl;
          };
      rest = f.after;
    }
