-- The busiest possible sample (document 02, R-9): the greatest number of scenes that N pictures can have, and luma
-- that has that many.
use Rattle.std.specs.Prelude.{ℕ, zero, suc, ◌+◌, ◌-◌, ◌*◌, ◌/◌, ◌%◌, ◌≤◌, ◌≡◌, Bool, true, ◌&&◌, List, [], ◌∷◌, map}
use Rattle.std.specs.Prelude.{length, take, drop, replicate, leb, ltb, eqb}
use Rattle.rules.specs.declared.Opening.{Opening}
use Rattle.rules.specs.Refusals.{Answer, Fault, none, unless, ◌or_else◌, answer}
use Rattle.rules.specs.declared.SceneRow.{SceneRow}
use Rattle.rules.specs.Bytes.{pick, within, table, end_to_end, Bytes}
use Rattle.rules.specs.Opening.{good_size, good_time, opening_fault}
use Rattle.rules.specs.Pictures.{picture_size, picture_count}
use Rattle.rules.specs.Seal.{no_picture, scenes, over, if_done}

-- ---- the greatest number

-- the first of the numbers n, n + 1, .. whose product with d reaches 600,000; n + more if none before it does
unfoldable pub reaching_from : ℕ → ℕ → ℕ → ℕ
reaching_from d zero n = n
reaching_from d (suc more) n = let later = reaching_from d more (suc n) in pick (leb 600000 (n * d)) n later

-- m: the least whole number for which m × d reaches 600,000, so the least distance of two starts.
-- As a d that is not refused is at least 10,000, it is at most 60
unfoldable pub least_between : ℕ → ℕ
least_between d = reaching_from d 60 0

-- the greatest number of scenes of n pictures
unfoldable pub most_scenes : ℕ → ℕ → ℕ
most_scenes d n = pick (ltb n 3) 1 (1 + (n - 3) / least_between d)

-- ---- the call: 2 for d, then 14 for no picture or 10 for more than 750, each at no place

unfoldable pub most_fault : ℕ → ℕ → Fault
most_fault d n = unless (good_time d) 2 or_else no_picture n or_else unless (leb n 750) 10

unfoldable pub most_answer : ℕ → ℕ → Answer ℕ
most_answer d n = answer (most_fault d n) (most_scenes d n)

-- ---- a sample that has that many

-- the value of the pictures of run t: black if t is even, otherwise white
unfoldable pub tone : ℕ → ℕ
tone t = pick (eqb (t % 2) 0) 0 255

-- the value of every byte of picture i; a run has m pictures
unfoldable pub shade : ℕ → ℕ → ℕ
shade d i = tone (i / least_between d)

-- the busiest luma: n pictures of w by h bytes
unfoldable pub busiest_luma : ℕ → ℕ → ℕ → ℕ → List ℕ
busiest_luma w h d n = end_to_end (table n 0 (λ i. replicate (w * h) (shade d i)))

-- its refusals: 1 for w and h comes first
unfoldable pub busiest_fault : ℕ → ℕ → ℕ → ℕ → Fault
busiest_fault w h d n = unless (good_size w h) 1 or_else most_fault d n

-- what a piece of so many bytes holds of it, from byte `at` on
unfoldable pub busiest_part : ℕ → ℕ → ℕ → ℕ → ℕ → ℕ → List ℕ
busiest_part w h d n at size = take size (drop at (busiest_luma w h d n))

-- the call that fills a lent piece: it answers how many bytes it wrote
unfoldable pub busiest_answer : ℕ → ℕ → ℕ → ℕ → ℕ → ℕ → Answer ℕ
busiest_answer w h d n at size = answer (busiest_fault w h d n) (length (busiest_part w h d n at size))

-- the piece after it: those bytes and behind them the bytes as they were; after a refusal all bytes as they were
unfoldable pub busiest_piece : ℕ → ℕ → ℕ → ℕ → ℕ → List ℕ → List ℕ
busiest_piece w h d n at piece =
    let new = over (busiest_part w h d n at (length piece)) piece in
    if_done (busiest_answer w h d n at (length piece)) new piece

-- ---- the program's arguments: numbers of 1 to 9 decimal digits; any other word, and a missing one, counts as 0

-- every byte is one of `0` to `9`
unfoldable pub all_digits : List ℕ → Bool
all_digits [] = true
all_digits (b ∷ bs) = within 48 57 b && all_digits bs

-- the number n with these digits behind its own
unfoldable pub with_digits : ℕ → List ℕ → ℕ
with_digits n [] = n
with_digits n (b ∷ bs) = with_digits (10 * n + (b - 48)) bs

-- what a word counts as; a missing one is the empty word
unfoldable pub argument_of : List ℕ → ℕ
argument_of word = pick (within 1 9 (length word) && all_digits word) (with_digits 0 word) 0

-- ---- what the laws say

-- m is the least whole number for which m × d reaches 600,000
pub record LeastReaching (d m : ℕ) : Type 0 where
  pub reaches : 600000 ≤ m * d
  pub least : (n : ℕ) → 600000 ≤ n * d → m ≤ n

abbrev pub BetweenIsLeast : Type 0
BetweenIsLeast = (d : ℕ) → good_time d ≡ true → LeastReaching d (least_between d)

-- no sample has more scenes, whatever the edition that it is opened with
abbrev pub NoneHasMore : Type 0
NoneHasMore =
    (o : Opening) (luma : List ℕ) → opening_fault o ≡ none →
    length (scenes o luma) ≤ most_scenes o.time (picture_count o luma)

-- the busiest luma of an opening's size and display time
abbrev pub luma_for : Opening → ℕ → List ℕ
luma_for o n = busiest_luma o.width o.height o.time n

-- it is a string of bytes, n whole pictures with nothing behind them, and has the greatest number of scenes: they
-- start at the pictures 0, m, 2 m and so on
pub record Busiest (o : Opening) (n : ℕ) : Type 0 where
  pub bytes : Bytes (luma_for o n)
  pub size : length (luma_for o n) ≡ n * picture_size o
  pub whole : picture_count o (luma_for o n) ≡ n
  pub most : length (scenes o (luma_for o n)) ≡ most_scenes o.time n
  pub starts : map (λ (s : SceneRow). s.first) (scenes o (luma_for o n)) ≡
      table (most_scenes o.time n) 0 (λ t. t * least_between o.time)

-- one sample has that many
abbrev pub OneHasThatMany : Type 0
OneHasThatMany = (o : Opening) (n : ℕ) → opening_fault o ≡ none → 1 ≤ n → n ≤ 750 → Busiest o n

-- the program writes at most 23,907 pieces, of 65,536 bytes each: laid end to end they are all of it
abbrev pub InPieces : Type 0
InPieces =
    (w h d n : ℕ) → busiest_fault w h d n ≡ none →
    end_to_end (table 23907 0 (λ i. busiest_part w h d n (i * 65536) 65536)) ≡ busiest_luma w h d n
