-- Document 02, R-3: the two tile boundaries of a row of w pixels. The tile column of pixel c is the number of
-- boundaries at or below c; that law stands in luma_laws/Columns. No histogram is defined by them.
use Rattle.std.specs.Prelude.{ℕ, ◌*◌, ◌≤◌, List, leb}
use Rattle.rules.specs.Bytes.{count}

-- boundary k, 1 or 2, of w columns: the least c with 3c at least k × w
pub record Boundary (k w c : ℕ) : Type 0 where
  pub reached : k * w ≤ 3 * c
  pub least : (b : ℕ) → k * w ≤ 3 * b → c ≤ b

-- how many of some boundaries are at or below c
abbrev pub at_or_below : ℕ → List ℕ → ℕ
at_or_below c bs = count (λ b. leb b c) bs
