-- Document 02, R-9: worked numbers, refusals, lumas and arguments, as a table with one theorem over its entries.
use mathlib.Core.Path.{◌≡◌, refl}
use mathlib.Core.List.{List, [], ◌∷◌, ◌++◌, map}
use lib.ListN.{replicate}
use Rattle.rules.specs.Bytes.{table, end_to_end}
use Rattle.rules.specs.Opening.{good_size, good_time}
use Rattle.rules.specs.Seal.{no_picture, over}
use Rattle.rules.specs.Busiest.{reaching_from, least_between, most_scenes, most_fault, most_answer}
use Rattle.rules.specs.Busiest.{tone, shade, busiest_luma, busiest_fault, busiest_part, busiest_answer, busiest_piece}
use Rattle.rules.specs.Busiest.{all_digits, with_digits, argument_of}
use Rattle.rules.proofs.Worked.{Case}
use Rattle.rules.proofs.Samples.{told}

pub busiest : List Case
busiest =
    -- d 40,000: 15 pictures a scene. 17 pictures are one scene, as a start needs two behind it; 18 are two
    record { rule = map (most_scenes 40000) (1 ∷ 2 ∷ 3 ∷ 17 ∷ 18 ∷ 750 ∷ []); paper = 1 ∷ 1 ∷ 1 ∷ 1 ∷ 2 ∷ 50 ∷ [] }
    -- m from the longest display time to the shortest; 7 × 85,714 is 599,998
    ∷ record {
      rule = map least_between (200000 ∷ 199999 ∷ 85715 ∷ 85714 ∷ 10001 ∷ 10000 ∷ []);
      paper = 3 ∷ 4 ∷ 7 ∷ 8 ∷ 60 ∷ 60 ∷ [];
    }
    -- 250 is reached; 10 and 14
    ∷ record { rule = told (most_answer 200000 750); paper = 0 ∷ 250 ∷ [] }
    ∷ record { rule = told (most_answer 200000 751); paper = 10 ∷ 0 ∷ [] }
    ∷ record { rule = told (most_answer 10000 0); paper = 14 ∷ 0 ∷ [] }
    -- 2 before 14 and 10; 1 before 2
    ∷ record { rule = told (most_answer 9999 0); paper = 2 ∷ 0 ∷ [] }
    ∷ record { rule = told (most_answer 200001 751); paper = 2 ∷ 0 ∷ [] }
    ∷ record { rule = told (busiest_answer 640 29 9999 0 0 9); paper = 1 ∷ 0 ∷ [] }
    ∷ record { rule = told (busiest_answer 640 30 9999 0 0 9); paper = 1 ∷ 0 ∷ [] }
    ∷ record { rule = told (busiest_answer 30 30 9999 0 0 9); paper = 2 ∷ 0 ∷ [] }
    -- black and white change every three pictures at d 200,000, every fifteen at d 40,000
    ∷ record { rule = map (shade 200000) (0 ∷ 2 ∷ 3 ∷ 5 ∷ 6 ∷ []); paper = 0 ∷ 0 ∷ 255 ∷ 255 ∷ 0 ∷ [] }
    ∷ record { rule = map (shade 40000) (3 ∷ 14 ∷ 15 ∷ 29 ∷ 30 ∷ []); paper = 0 ∷ 0 ∷ 255 ∷ 255 ∷ 0 ∷ [] }
    -- four pictures of two bytes, and parts of them
    ∷ record { rule = busiest_luma 2 1 200000 4; paper = replicate 6 0 ++ (255 ∷ 255 ∷ []) }
    ∷ record { rule = busiest_part 2 1 200000 4 5 2; paper = 0 ∷ 255 ∷ [] }
    ∷ record { rule = busiest_part 2 1 200000 4 7 2; paper = 255 ∷ [] }
    ∷ record { rule = busiest_part 2 1 200000 4 8 2; paper = [] }
    -- a luma of four pictures of 450 bytes: the last two bytes and two that stand, and all that stand after a refusal
    ∷ record { rule = told (busiest_answer 15 30 200000 4 1798 4); paper = 0 ∷ 2 ∷ [] }
    ∷ record { rule = busiest_piece 15 30 200000 4 1798 (replicate 4 7); paper = 255 ∷ 255 ∷ 7 ∷ 7 ∷ [] }
    ∷ record { rule = busiest_piece 15 30 200000 0 0 (replicate 4 7); paper = replicate 4 7 }
    -- arguments: 0030, nine digits, ten, none, a letter, a sign
    ∷ record { rule = argument_of (48 ∷ 48 ∷ 51 ∷ 48 ∷ []) ∷ []; paper = 30 ∷ [] }
    ∷ record { rule = argument_of (replicate 9 57) ∷ argument_of (replicate 10 48) ∷ []; paper = 999999999 ∷ 0 ∷ [] }
    ∷ record { rule = argument_of (49 ∷ replicate 9 48) ∷ argument_of [] ∷ []; paper = 0 ∷ 0 ∷ [] }
    ∷ record { rule = argument_of (51 ∷ 120 ∷ []) ∷ argument_of (43 ∷ 51 ∷ []) ∷ []; paper = 0 ∷ 0 ∷ [] }
    ∷ []

-- the theorem: every entry's rule gives what document 02 says
pub worked : map (λ (c : Case). c.rule) busiest ≡ map (λ (c : Case). c.paper) busiest
unfolding busiest table end_to_end good_size good_time no_picture over reaching_from least_between most_scenes
    most_fault most_answer tone shade busiest_luma busiest_fault busiest_part busiest_answer busiest_piece all_digits
    with_digits argument_of
worked = refl
