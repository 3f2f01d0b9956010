-- The entries that the code keeps: what one gap more makes of them.
use Rattle.std.specs.Prelude.{ℕ, ◌-◌, ◌^◌, ◌≤◌, ◌<◌, List, ◌∷◌, map, length, get_or, replicate, leb}
use Rattle.rules.specs.Bytes.{pick, total, table}
use Rattle.rules.specs.GapRuns.{gap_lost, gaps}

-- the entry of what is left of l, if that much is left
abbrev pub entry_at : List ℕ → ℕ → ℕ → ℕ
entry_at xs l lost = pick (leb lost l) (get_or xs (l - lost) 0) 0

-- entry l with one gap more: over the gaps, the entries of what each leaves of l
unfoldable pub one_more : List ℕ → ℕ → ℕ
one_more xs l = total (map (λ g. entry_at xs l (gap_lost g)) gaps)

-- the first entries are small enough that sixteen of them fit 64 bits
pub record Small (size : ℕ) (xs : List ℕ) : Type 0 where
  pub long : size ≤ length xs
  pub few : (k : ℕ) → k < size → get_or xs k 0 ≤ 2 ^ 56

-- of no gap: one run that loses 0
abbrev pub started : ℕ → List ℕ
started size = 1 ∷ replicate (size - 1) 0

-- each entry with one gap more
abbrev pub grown : List ℕ → List ℕ
grown xs = table (length xs) 0 (one_more xs)
