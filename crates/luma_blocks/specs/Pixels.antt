-- The reduced picture, a row at a time.
use Rattle.std.specs.Prelude.{ℕ, ◌+◌, ◌*◌, ◌/◌, ◌%◌, ◌^◌, ◌≤◌, ◌<◌, ◌≡◌, List, ◌++◌, length, get_or}
use Rattle.rules.specs.Bytes.{Bytes}
use Rattle.luma_laws.specs.Tallies.{block_tally}
use Rattle.luma_blocks.specs.Rows.{SumsOf}

-- The first b rows of the pixels (reduced pixels), in w columns each: a block's sum divided once by its n × n bytes.
-- They are those of every picture that begins with p
pub record RowsOf (W n w b : ℕ) (p pixels : List ℕ) : Type 0 where
  pub size : length pixels ≡ 14104
  pub each : (r c : ℕ) → r < b → c < w → (t : List ℕ) →
      get_or pixels (r * w + c) 0 ≡ block_tally W n r c (p ++ t) / (n * n)

-- what `finish_row` asks
pub record Finishing (n w b : ℕ) : Type 0 where
  pub some : 0 < n
  pub few : n ≤ 64
  pub room : w ≤ 240
  pub fits : b * w + w ≤ 14104

-- i pixels from `base` on were made of the first i sums, which were cleared. `pixels` and `sums` are as they were
-- before, `out` and `left` as they are
pub record Finished (area base i : ℕ) (pixels sums out left : List ℕ) : Type 0 where
  pub pixels_size : length out ≡ length pixels
  pub sums_size : length left ≡ length sums
  pub made : length pixels ≡ 14104 → (j : ℕ) → j < i →
      (get_or out (base + j) 0 ≡ get_or sums j 0 / area % 256) × (get_or sums j 0 < 2 ^ 32)
  pub before : (q : ℕ) → q < base → get_or out q 0 ≡ get_or pixels q 0
  pub after : (q : ℕ) → base + i ≤ q → get_or out q 0 ≡ get_or pixels q 0
  pub cleared : length sums ≡ 240 → (j : ℕ) → j < i → get_or left j 0 ≡ 0
  pub kept : (j : ℕ) → i ≤ j → get_or left j 0 ≡ get_or sums j 0

-- Where the bytes p of a picture end with block row b, and the sums stood for that row, the pixels have a row more,
-- and the sums stand for the next block row
pub record RowDone (n w b : ℕ) (pixels sums out left : List ℕ) : Type 0 where
  pub drawn : (W : ℕ) (p : List ℕ) → 0 < W → length p ≡ (b * n + n) * W → Bytes p → SumsOf W n w b p sums →
      RowsOf W n w b p pixels → RowsOf W n w (b + 1) p out
  pub next : (W : ℕ) (p : List ℕ) → 0 < W → length p ≡ (b * n + n) * W → SumsOf W n w b p sums →
      SumsOf W n w (b + 1) p left
  pub rest : (q : ℕ) → b * w + w ≤ q → get_or out q 0 ≡ get_or pixels q 0
