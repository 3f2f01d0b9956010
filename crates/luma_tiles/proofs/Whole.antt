-- Counts of a picture's pixels are the rule's own histograms. No code.
use Rattle.std.proofs.Common.{◌≡◌, ℕ, ◌+◌, ◌*◌, ◌^◌, ◌<◌, List, length, get_or, sym, ap, ◌∙◌, mod-eq_of_lt, arith}
use Rattle.rules.specs.declared.Opening.{Opening}
use Rattle.rules.specs.Bytes.{table}
use Rattle.rules.specs.Opening.{columns, lines}
use Rattle.rules.specs.Histograms.{histograms}
use Rattle.luma_laws.proofs.Tables.{same-table}
use Rattle.luma_laws.specs.Tallies.{bin_tally}
use Rattle.luma_laws.proofs.Tiles.{bin-most, histograms-are}
use Rattle.luma_tiles.specs.Bins.{Counts}

-- a count of 32 bits is the bin itself
pub count-is : (w h base t b : ℕ) (px : List ℕ) {counts : List ℕ} → Counts w h base px counts → t < 9 → b < 16 →
    length px < 2 ^ 32 →
    get_or counts (base + (16 * t + b)) 0 < 2 ^ 32 → get_or counts (base + (16 * t + b)) 0 ≡ bin_tally w h t b px
count-is w h base t b px {counts} s ht hb few small =
    sym (mod-eq_of_lt small) ∙ s.each t b ht hb ∙ mod-eq_of_lt (omega (arith, bin-most w h t b px))

-- the 144 counts from `base` on, by tiles
pub counts-are : (o : Opening) (base : ℕ) (px : List ℕ) {counts : List ℕ} →
    Counts (columns o) (lines o) base px counts → length px < 2 ^ 32 →
    ((i : ℕ) → get_or counts i 0 < 2 ^ 32) → table 9 0 (λ t. table 16 0 (λ b. get_or counts (base + 16 * t + b) 0))
    ≡ histograms o px
counts-are o base px {counts} s few small =
    same-table 9 0 (λ t. table 16 0 (λ b. get_or counts (base + 16 * t + b) 0))
    (λ t. table 16 0 (λ b. bin_tally (columns o) (lines o) t b px))
    (λ t ht.
    same-table 16 0 (λ b. get_or counts (base + 16 * t + b) 0) (λ b. bin_tally (columns o) (lines o) t b px)
    (λ b hb.
    let here : base + 16 * t + b ≡ base + (16 * t + b) = omega arith in
    ap (λ (i : ℕ). get_or counts i 0) here
    ∙ count-is (columns o) (lines o) base t b px s (omega arith) (omega arith) few (small (base + (16 * t + b)))))
    ∙ sym (histograms-are o px)
