-- Document 02, R-10: tables of gap runs as far as a hand counts them, answers and lent tables, as a table with one
-- theorem over its entries.
use mathlib.Core.Path.{◌≡◌, refl}
use mathlib.Core.List.{List, [], ◌∷◌, ◌++◌, map}
use lib.ListN.{take, drop, replicate}
use Rattle.rules.specs.Bytes.{total, count, table, end_to_end}
use Rattle.rules.specs.Units.{gap_loss}
use Rattle.rules.specs.Seal.{no_room, over}
use Rattle.rules.specs.GapRuns.{gap_lost, lost_in, gaps, runs, runs_losing, gap_table, gap_fault, gap_answer}
use Rattle.rules.specs.GapRuns.{table_after}
use Rattle.rules.proofs.Worked.{Case}
use Rattle.rules.proofs.Samples.{told}

pub counted : List Case
counted =
    -- gaps of 0 and 1 lose nothing, 2 to 15 lose 1 to 14; a run's total
    record {
      rule = map gap_lost (0 ∷ 1 ∷ 2 ∷ 15 ∷ []) ++ lost_in (3 ∷ 15 ∷ 1 ∷ 2 ∷ []) ∷ [];
      paper = 0 ∷ 0 ∷ 1 ∷ 14 ∷ 17 ∷ [];
    }
    -- no gap: one run, which loses nothing
    ∷ record { rule = gap_table 0; paper = 1 ∷ [] }
    -- one gap: 0 and 1 lose nothing, 2 to 15 lose 1 to 14
    ∷ record { rule = gap_table 1; paper = 2 ∷ replicate 14 1 }
    -- two gaps: a total of 1 is gap 2 beside 0 or 1, either way; a total of 2 is gap 3 likewise, and 2 twice
    ∷ record { rule = take 3 (gap_table 2); paper = 4 ∷ 4 ∷ 5 ∷ [] }
    -- 28 is 15 twice, 27 is 14 and 15 either way; all runs of two gaps are 256
    ∷ record { rule = drop 26 (gap_table 2) ++ total (gap_table 2) ∷ []; paper = 3 ∷ 2 ∷ 1 ∷ 256 ∷ [] }
    -- room for 15 gaps: 211 entries, and one fewer is too short
    ∷ record { rule = told (gap_answer 15 211) ++ told (gap_answer 15 210); paper = 0 ∷ 211 ∷ 15 ∷ 211 ∷ [] }
    -- 24 comes before 15, and however long the table is
    ∷ record { rule = told (gap_answer 16 0) ++ told (gap_answer 16 1000); paper = 24 ∷ 0 ∷ 24 ∷ 0 ∷ [] }
    -- entries past 14 n are not written; after a refusal none is
    ∷ record { rule = table_after 0 (7 ∷ 7 ∷ []); paper = 1 ∷ 7 ∷ [] }
    ∷ record { rule = table_after 1 (replicate 17 7); paper = 2 ∷ replicate 14 1 ++ 7 ∷ 7 ∷ [] }
    ∷ record { rule = table_after 1 (replicate 14 7); paper = replicate 14 7 }
    ∷ record { rule = table_after 16 (replicate 3 7); paper = replicate 3 7 }
    ∷ []

-- the theorem: every entry's rule gives what document 02 says
pub runs-counted : map (λ (c : Case). c.rule) counted ≡ map (λ (c : Case). c.paper) counted
unfolding counted gap_lost lost_in gaps runs runs_losing gap_table gap_fault gap_answer table_after gap_loss no_room
    over total count table end_to_end
runs-counted = refl
