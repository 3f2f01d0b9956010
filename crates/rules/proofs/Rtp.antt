-- Document 02, R-11: small streams worked by hand, as a table with one theorem over its entries.
use Prim.Native.Nat.{ℕ, ◌+◌, ◌-◌}
use mathlib.Core.Path.{◌≡◌, refl}
use mathlib.Core.List.{List, [], ◌∷◌, ◌++◌, map}
use lib.ListN.{replicate}
use Rattle.rules.specs.declared.UnitRow.{UnitRow}
use Rattle.rules.specs.Bytes.{pick, bytes_of, total, greatest_of, least_of, only, table, end_to_end}
use Rattle.rules.specs.Cuts.{insert, sorted}
use Rattle.rules.specs.Rtp.{RtpLists, rtp_lists, origin, arrival_of, places_after, places, rows_from, firsts}
use Rattle.rules.specs.Rtp.{ordered}
use Rattle.rules.specs.Rtp.{missing_at, rtp_rows, rtp_groups, rtp_least, rtp_unit, rtp_units_in, rtp_units}
use Rattle.rules.specs.Rtp.{good_lists, rtp_fault, rtp_answer, rtp_buffer}
use Rattle.rules.specs.Record.{unit_bytes}
use Rattle.rules.specs.Seal.{no_room, over}
use Rattle.rules.proofs.Worked.{Case}
use Rattle.rules.proofs.Samples.{told}

-- places, each with 100,000 added
shown : List ℕ → List ℕ
shown s = map (λ (p : ℕ). p + 100000 - origin) (places s)

-- the numbers of the rows that stay, in their order
stay : List ℕ → List ℕ
stay s = map (λ (r : ℕ). arrival_of r) (ordered s)

-- units: least and greatest time, size, cells, lost
figures : List UnitRow → List ℕ
figures us = end_to_end (map (λ u. u.least ∷ u.greatest ∷ u.size ∷ u.packets ∷ u.lost ∷ []) us)

one : RtpLists
one = rtp_lists (0 ∷ []) (5 ∷ []) (7 ∷ [])

-- rows of n zeros
zeros : ℕ → RtpLists
zeros n = rtp_lists (replicate n 0) (replicate n 0) (replicate n 0)

pub streams : List Case
streams =
    -- the counter wraps; one late row lies below 0; a step of 32,768 goes back, one of 32,767 forth
    record { rule = shown (65534 ∷ 65535 ∷ 0 ∷ 1 ∷ []); paper = 165534 ∷ 165535 ∷ 165536 ∷ 165537 ∷ [] }
    ∷ record { rule = shown (0 ∷ 65535 ∷ 2 ∷ []); paper = 100000 ∷ 99999 ∷ 100002 ∷ [] }
    ∷ record { rule = shown (40000 ∷ 7232 ∷ 39999 ∷ []); paper = 140000 ∷ 107232 ∷ 139999 ∷ [] }
    -- the place before is that of the row before, dropped or not: the third row is dropped, and 32,769 goes back
    -- from it
    ∷ record { rule = shown (0 ∷ 32767 ∷ 0 ∷ 32769 ∷ []); paper = 100000 ∷ 132767 ∷ 100000 ∷ 67233 ∷ [] }
    -- the first of equals stays; then by place
    ∷ record { rule = stay (5 ∷ 7 ∷ 5 ∷ 6 ∷ 7 ∷ []); paper = 0 ∷ 3 ∷ 1 ∷ [] }
    ∷ record { rule = stay (0 ∷ 65535 ∷ []); paper = 1 ∷ 0 ∷ [] }
    -- one unit of three rows with one place missing; the dropped row's marker, time and length do not count
    ∷ record {
      rule =
          figures
          (rtp_units (5 ∷ 7 ∷ 4 ∷ 5 ∷ [])
          (rtp_lists (0 ∷ 1 ∷ 0 ∷ 1 ∷ []) (50 ∷ 70 ∷ 40 ∷ 10 ∷ []) (100 ∷ 20 ∷ 3 ∷ 9 ∷ [])));
      paper = 40 ∷ 70 ∷ 123 ∷ 3 ∷ 1 ∷ [];
    }
    -- a unit ends at a marker or the last row; what is missing counts for the unit of the row behind it
    ∷ record {
      rule = figures (rtp_units (1 ∷ 4 ∷ 5 ∷ []) (rtp_lists (2 ∷ 0 ∷ 0 ∷ []) (9 ∷ 8 ∷ 8 ∷ []) (1 ∷ 2 ∷ 3 ∷ [])));
      paper = 9 ∷ 9 ∷ 1 ∷ 1 ∷ 0 ∷ 8 ∷ 8 ∷ 5 ∷ 2 ∷ 2 ∷ [];
    }
    -- any marker but 0 is set
    ∷ record {
      rule = figures (rtp_units (1 ∷ 2 ∷ []) (rtp_lists (256 ∷ 0 ∷ []) (3 ∷ 4 ∷ []) (5 ∷ 6 ∷ [])));
      paper = 3 ∷ 3 ∷ 5 ∷ 1 ∷ 0 ∷ 4 ∷ 4 ∷ 6 ∷ 1 ∷ 0 ∷ [];
    }
    -- refusals: no rows, unequal lists, above 4,096 rows; then a buffer too short
    ∷ record { rule = told (rtp_answer [] (rtp_lists [] [] []) 0); paper = 25 ∷ 0 ∷ [] }
    ∷ record { rule = told (rtp_answer (1 ∷ 2 ∷ []) one 0); paper = 25 ∷ 0 ∷ [] }
    ∷ record {
      rule = map (λ (n : ℕ). pick (good_lists (replicate n 0) (zeros n)) 0 25) (4096 ∷ 4097 ∷ []);
      paper = 0 ∷ 25 ∷ [];
    }
    ∷ record { rule = told (rtp_answer (1 ∷ []) one 31); paper = 15 ∷ 32 ∷ [] }
    ∷ record { rule = told (rtp_answer (1 ∷ []) one 32); paper = 0 ∷ 1 ∷ [] }
    -- the row and behind it the bytes as they were; after a refusal all bytes as they were
    ∷ record {
      rule = rtp_buffer (1 ∷ []) one (replicate 34 9);
      paper = bytes_of 8 5 ++ bytes_of 8 5 ++ bytes_of 4 7 ++ bytes_of 4 1 ++ bytes_of 4 0 ++ bytes_of 4 0
          ++ (9 ∷ 9 ∷ []);
    }
    ∷ record { rule = rtp_buffer (1 ∷ []) one (replicate 31 9); paper = replicate 31 9 }
    ∷ []

-- the theorem: every entry's rule gives what document 02 says
pub worked : map (λ (c : Case). c.rule) streams ≡ map (λ (c : Case). c.paper) streams
unfolding streams shown stay figures one zeros places_after places rows_from firsts ordered missing_at rtp_rows
    rtp_groups rtp_least rtp_unit rtp_units_in rtp_units good_lists no_room over rtp_fault rtp_answer rtp_buffer
    unit_bytes bytes_of total greatest_of least_of only table end_to_end insert sorted
worked = refl
