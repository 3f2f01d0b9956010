-- What a lost count can hide (document 02, R-10): how many runs of n gaps, each 0 to 15, have one lost total. The runs
-- are listed and counted.
use Rattle.std.specs.Prelude.{ℕ, zero, suc, ◌+◌, ◌-◌, ◌*◌, ◌%◌, ◌^◌, ◌<◌, ◌≡◌, List, [], ◌∷◌, map, length, leb, eqb}
use Rattle.rules.specs.Bytes.{total, count, table, end_to_end, All}
use Rattle.rules.specs.Refusals.{Fault, unless, ◌or_else◌, answer, Answer}
use Rattle.rules.specs.Units.{gap_loss}
use Rattle.rules.specs.Changes.{same}
use Rattle.rules.specs.Seal.{no_room, over, if_done}

-- what a gap g loses: what document 01 charges for two counters so far apart
unfoldable pub gap_lost : ℕ → ℕ
gap_lost g = gap_loss 0 g

-- a run's lost total
unfoldable pub lost_in : List ℕ → ℕ
lost_in run = total (map gap_lost run)

-- the gaps, 0 to 15
unfoldable pub gaps : List ℕ
gaps = table 16 0 (λ g. g)

-- all runs of n gaps: each gap before each run of n − 1
unfoldable pub runs : ℕ → List (List ℕ)
runs zero = [] ∷ []
runs (suc n) = end_to_end (map (λ g. map (λ run. g ∷ run) (runs n)) gaps)

-- how many runs of n gaps lose l in total
unfoldable pub runs_losing : ℕ → ℕ → ℕ
runs_losing n l = count (λ run. eqb (lost_in run) l) (runs n)

-- totals go from 0 to 14 n: so many entries
abbrev pub entry_count : ℕ → ℕ
entry_count n = 14 * n + 1

-- the table: an entry for each total
unfoldable pub gap_table : ℕ → List ℕ
gap_table n = table (entry_count n) 0 (runs_losing n)

-- ---- refusals 24 and 15, and what a call leaves

-- 24: n above 15; then 15: a table shorter than 14 n + 1
unfoldable pub gap_fault : ℕ → ℕ → Fault
gap_fault n room = unless (leb n 15) 24 or_else no_room room (entry_count n)

-- the answer is the refusal, or the number of entries
unfoldable pub gap_answer : ℕ → ℕ → Answer ℕ
gap_answer n room = answer (gap_fault n room) (entry_count n)

-- the table afterwards: its first entries, and behind them what was there; after a refusal all as it was
unfoldable pub table_after : ℕ → List ℕ → List ℕ
table_after n old = let new = over (gap_table n) old in if_done (gap_answer n (length old)) new old

-- what a call promises: n, the table before, the answer, the table after
pub record TableGiven (n : ℕ) (before : List ℕ) (r : Answer ℕ) (after : List ℕ) : Type 0 where
  pub answer : r ≡ gap_answer n (length before)
  pub entries : after ≡ table_after n before

-- ---- what the laws say

-- the entries total 16 to the power n, for every n
abbrev pub Total : Type 0
Total = (n : ℕ) → total (gap_table n) ≡ 16 ^ n

-- no run loses more than 14 n, and 64 bits hold every entry up to n = 15
abbrev pub NoFurther : Type 0
NoFurther = (n l : ℕ) → 14 * n < l → runs_losing n l ≡ 0

abbrev pub Narrow : Type 0
Narrow = (n l : ℕ) → n < 16 → runs_losing n l < 2 ^ 64

-- whatever the two counters are
abbrev pub AsCounted : Type 0
AsCounted = (before now : ℕ) → gap_loss before now ≡ gap_lost ((now + 16 - before) % 16)

-- the runs listed are lists of n gaps, and every list of n gaps is among them once
pub record Run (n : ℕ) (run : List ℕ) : Type 0 where
  pub long : length run ≡ n
  pub gaps : All (λ (g : ℕ). g < 16) run

abbrev pub OnlyRuns : Type 0
OnlyRuns = (n : ℕ) → All (Run n) (runs n)

abbrev pub EachOnce : Type 0
EachOnce = (n : ℕ) (run : List ℕ) → Run n run → count (same run) (runs n) ≡ 1
