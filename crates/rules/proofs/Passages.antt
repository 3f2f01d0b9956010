-- Document 02, R-12: passages by hand, as a table with one theorem over its entries.
use mathlib.Core.Path.{◌≡◌, refl}
use mathlib.Core.List.{List, [], ◌∷◌, ◌++◌, map}
use mathlib.Core.Bool.{Bool, true, false}
use lib.ListN.{replicate, take}
use Rattle.rules.specs.Bytes.{total, count, table, parts, end_to_end}
use Rattle.rules.specs.Editions.{is_edition}
use Rattle.rules.specs.Opening.{good_size, good_time, good_pid, opening_fault, open_answer, level_up_to, level, side}
use Rattle.rules.specs.Opening.{area, columns, lines}
use Rattle.rules.specs.Pictures.{picture_size, picture_count, pictures, luma_fault, rows, band, block_sum, pixel_in}
use Rattle.rules.specs.Pictures.{pixel_line, pixels}
use Rattle.rules.specs.Changes.{same, repeats_after, repeats}
use Rattle.rules.specs.Seal.{reduced, luma_answer}
use Rattle.rules.specs.Passage.{repeated_in, passage_fault, repeats_fault, repeats_answer}
use Rattle.rules.specs.Calls.{feed_luma, ask, repeats as asked, expected}
use Rattle.rules.proofs.Worked.{Case}
use Rattle.rules.proofs.Samples.{opened, small, run, picture, told_fault}

-- 130 pictures of which every one but 0, 64 and 100 is repeated
film : List Bool
film =
    false ∷ replicate 63 true ++ false ∷ replicate 35 true ++ false ∷ replicate 29 true

pub passages : List Case
passages =
    -- within a word of 64 pictures, across one border and across two, whole words, none
    record {
      rule =
          repeated_in 0 130 film ∷ repeated_in 0 1 film ∷ repeated_in 0 2 film ∷ repeated_in 63 65 film
          ∷ repeated_in 64 128 film ∷ repeated_in 5 129 film ∷ repeated_in 100 101 film ∷ repeated_in 101 102 film
          ∷ repeated_in 130 130 film ∷ [];
      paper = 127 ∷ 0 ∷ 1 ∷ 1 ∷ 62 ∷ 122 ∷ 0 ∷ 1 ∷ 0 ∷ [];
    }
    -- 26: a above b, b above the pictures; as many are allowed, and none
    ∷ record {
      rule =
          told_fault (passage_fault 130 7 6) ++ told_fault (passage_fault 130 0 131)
          ++ told_fault (passage_fault 130 131 131) ++ told_fault (passage_fault 130 0 130)
          ++ told_fault (passage_fault 130 130 130) ++ told_fault (passage_fault 0 0 0);
      paper = 26 ∷ 0 ∷ 26 ∷ 0 ∷ 26 ∷ 0 ∷ 0 ∷ 0 ∷ 0 ∷ 0 ∷ 0 ∷ 0 ∷ [];
    }
    -- three pictures, the second repeated, and a byte less than a fourth; b is not counted; the fourth comes, repeated
    ∷ record {
      rule =
          run small
          (ask (asked 0 0) ∷ feed_luma (picture 16 ++ picture 16 ++ picture 90 ++ take 449 (picture 90))
          ∷ ask (asked 0 3) ∷ ask (asked 2 3) ∷ ask (asked 0 4)
          ∷ feed_luma (90 ∷ []) ∷ ask (asked 0 4) ∷ ask (asked 3 4) ∷ ask (asked 4 3) ∷ []);
      paper =
          0 ∷ 0 ∷ 0 ∷ 0 ∷ 0 ∷ 1799
          ∷ 0 ∷ 1 ∷ 0 ∷ 0 ∷ 26 ∷ 0
          ∷ 0 ∷ 1 ∷ 0 ∷ 2 ∷ 0 ∷ 1 ∷ 26 ∷ 0 ∷ [];
    }
    -- the opening's number before 26
    ∷ record {
      rule = run (opened 640 29 9999 8192) (ask (asked 0 0) ∷ ask (asked 1 0) ∷ []);
      paper = 1 ∷ 0 ∷ 1 ∷ 0 ∷ 1 ∷ 0 ∷ [];
    }
    ∷ []

-- the theorem: every entry's rule gives what document 02 says
pub counted : map (λ (c : Case). c.rule) passages ≡ map (λ (c : Case). c.paper) passages
unfolding passages film run picture open_answer total count table parts end_to_end is_edition good_size good_time
    good_pid opening_fault level_up_to level side area columns lines picture_size picture_count pictures luma_fault
    rows band block_sum pixel_in pixel_line pixels same repeats_after repeats reduced luma_answer repeated_in
    passage_fault repeats_fault repeats_answer expected
counted = refl
