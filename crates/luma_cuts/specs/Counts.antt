-- Cuts: what the counts of five pictures' histograms hold.
use Prim.{Unit}
use Rattle.std.specs.Prelude.{ℕ, ◌+◌, ◌*◌, ◌≤◌, List, [], ◌∷◌, get_or}
use Rattle.rules.specs.Bytes.{table, smaller}
use Rattle.rules.specs.Cuts.{difference, least_of_six}

-- the 16 bins from a place on
unfoldable pub bins_at : List ℕ → ℕ → List ℕ
bins_at counts at = table 16 0 (λ b. get_or counts (at + b) 0)

-- the nine tiles' histograms from a base on: bin b of tile t is count 16 t + b
unfoldable pub tiles_at : List ℕ → ℕ → List (List ℕ)
tiles_at counts base = table 9 0 (λ t. bins_at counts (base + 16 * t))

-- the smaller of the differences of the picture at a base and those at two others
abbrev pub two_at : List ℕ → ℕ → ℕ → ℕ → ℕ
two_at counts a x y =
    smaller (difference (tiles_at counts a) (tiles_at counts x)) (difference (tiles_at counts a) (tiles_at counts y))

-- the least of six differences of the pictures at five bases
abbrev pub least_at : List ℕ → ℕ → ℕ → ℕ → ℕ → ℕ → ℕ
least_at counts a b x y z =
    least_of_six (tiles_at counts a) (tiles_at counts b) (tiles_at counts x) (tiles_at counts y) (tiles_at counts z)

-- a picture's 144 counts from here on lie within the 720
pub record Slot (base : ℕ) : Type 0 where
  pub fits : base + 144 ≤ 720

-- numbers in order, none below b
unfoldable pub Rising : ℕ → List ℕ → Type 0
Rising b [] = Unit {0}
Rising b (x ∷ xs) = (b ≤ x) × Rising x xs
