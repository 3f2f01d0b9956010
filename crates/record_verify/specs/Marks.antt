-- The marks of a sealed record: what document 01's rules leave in every record, though its reader does not ask for it.
-- `sealed_facts` proves each of every seal. The subject is the record's bytes r.
use Rattle.std.specs.Prelude.{ℕ, ◌+◌, ◌-◌, ◌*◌, List, [], ◌∷◌, ◌++◌, Bool, leb, ltb, eqb, Result, Ok, Err}
use Rattle.rules.specs.declared.Header.{Header}
use Rattle.rules.specs.declared.UnitRow.{UnitRow}
use Rattle.rules.specs.declared.SceneRow.{SceneRow}
use Rattle.rules.specs.Bytes.{pick, word32, word64, table, end_to_end}
use Rattle.rules.specs.Refusals.{Answer, answer}
use Rattle.rules.specs.Index.{index_bits}
use Rattle.rules.specs.Busiest.{most_scenes}
use Rattle.rules.specs.Reading.{header_of, unit_at, scene_at, reading_fault}
use Rattle.record_verify.specs.declared.Reached.{Reached}
use Rattle.record_verify.specs.declared.Failing.{Failing}
use Rattle.record_verify.specs.declared.Verdict.{Verdict}
use Rattle.record_verify.specs.declared.Verdict.TheVariants.{CouldBeSealed, CouldNotBeSealed}
use Rattle.record_verify.specs.Totals.{packets_total, damaged_total, index_of_rows, reached_of}

-- a check of a mark: its number, the row (0 where none is meant), what the record has, the limit (the most, the least,
-- or the only value allowed), whether it holds
pub record Check : Type 0 where
  pub mark : ℕ
  pub row : ℕ
  pub found : ℕ
  pub limit : ℕ
  pub holds : Bool

abbrev pub at_most : ℕ → ℕ → ℕ → ℕ → Check
at_most mark row found limit =
    record { mark = mark; row = row; found = found; limit = limit; holds = leb found limit }

abbrev pub at_least : ℕ → ℕ → ℕ → ℕ → Check
at_least mark row found limit =
    record { mark = mark; row = row; found = found; limit = limit; holds = leb limit found }

abbrev pub exactly : ℕ → ℕ → ℕ → ℕ → Check
exactly mark row found limit =
    record { mark = mark; row = row; found = found; limit = limit; holds = eqb found limit }

-- 1 for the first row, 0 for any other
unfoldable pub in_first : ℕ → ℕ
in_first j = pick (eqb j 0) 1 0

-- ---- 1 to 3: the header and the totals

-- the capture's frames that carry (document 01: records)
abbrev pub carrying : Header → ℕ
carrying h = h.frames - h.skipped

-- the packets that are counted: bad, in a unit, or damaged in one
unfoldable pub counted_in : List ℕ → ℕ
counted_in r = word32 r 52 + packets_total r + damaged_total r

-- 1: a capture has a header of 24 bytes, one of 16 for each frame, 42 before the packets of a frame that carries, and
-- 188 for each packet counted; all that is at most 268,435,456 bytes (refusal 4).
-- 2: a frame carries at most 348 packets, since U is a 16-bit number.
-- 3: N pictures shown for d have at most so many scenes (document 02, R-9)
unfoldable pub header_checks : Header → ℕ → List Check
header_checks h counted =
    at_most 1 0 (24 + 16 * h.frames + 42 * carrying h + 188 * counted) 268435456
    ∷ at_most 2 0 counted (348 * carrying h)
    ∷ at_most 3 0 h.scenes (most_scenes h.time h.pictures) ∷ []

-- ---- 4 and 5: a unit row

-- 4: a packet has at most 14 lost before it, the first of all none.
-- 5: seconds and microseconds of a frame: below 2^32, at most 999,999 (refusal 7)
unfoldable pub unit_checks : ℕ → UnitRow → List Check
unit_checks j u =
    at_most 4 j u.lost (14 * (u.packets - in_first j))
    ∷ at_most 5 j u.greatest 4294967295999999 ∷ []

-- ---- 6 to 15: a scene row

-- 6: a scene's first picture is not repeated: picture 0 never is, and a repeated picture has s 0, so it starts no
-- scene.
-- 7: the longest run is among the repeated ones.
-- 8: each run follows an unrepeated picture, and none is longer than the longest
unfoldable pub repeat_checks : ℕ → SceneRow → List Check
repeat_checks j s =
    at_most 6 j s.repeated (s.pictures - 1)
    ∷ at_most 7 j s.longest s.repeated
    ∷ at_most 8 j s.repeated (s.longest * (s.pictures - s.repeated)) ∷ []

-- the pictures whose s and q can be above 0: those that are not repeated, without picture 0
abbrev pub changing : ℕ → SceneRow → ℕ
changing j s = s.pictures - s.repeated - in_first j

-- 9: the greatest s is among those that are summed. 10: s is at most 1,000,000.
-- 11: no s of the sum is above the greatest. 12: q is at most 25,500, what 255 steps of brightness allow
unfoldable pub sum_checks : ℕ → SceneRow → List Check
sum_checks j s =
    at_most 9 j s.peak s.score
    ∷ at_most 10 j s.peak 1000000
    ∷ at_most 11 j s.score (s.peak * changing j s)
    ∷ at_most 12 j s.change (25500 * changing j s) ∷ []

-- every scene but the first starts at a cut: 13: its s is above 1,000. 14: s(i) is 0 where picture i + 2 is missing
unfoldable pub start_checks : Header → ℕ → SceneRow → List Check
start_checks h j s =
    pick (ltb 0 j) (at_least 13 j s.peak 1001 ∷ at_most 14 j s.first (h.pictures - 3) ∷ []) []

-- 15: every scene but the last lasts 600,000 microseconds or more
unfoldable pub length_checks : Header → ℕ → SceneRow → List Check
length_checks h j s = pick (ltb (j + 1) h.scenes) (at_least 15 j (s.pictures * h.time) 600000 ∷ []) []

unfoldable pub scene_checks : Header → ℕ → SceneRow → List Check
scene_checks h j s = repeat_checks j s ++ sum_checks j s ++ start_checks h j s ++ length_checks h j s

-- ---- all of them, in order; the rows upward

unfoldable pub units_checks : List ℕ → List Check
units_checks r = end_to_end (table (word32 r 8) 0 (λ j. unit_checks j (unit_at r j)))

unfoldable pub scenes_checks : List ℕ → List Check
scenes_checks r = end_to_end (table (word32 r 16) 0 (λ j. scene_checks (header_of r) j (scene_at r j)))

-- 16: the index's bits are those of the index that the rows reach
unfoldable pub index_checks : List ℕ → List Check
index_checks r = exactly 16 0 (word64 r 56) (index_bits (index_of_rows r)) ∷ []

unfoldable pub checks : List ℕ → List Check
checks r = header_checks (header_of r) (counted_in r) ++ units_checks r ++ scenes_checks r ++ index_checks r

-- ---- the verdict

-- what checks find: all hold, or one fails
abbrev pub Found : Type 0
Found = Result (Unit {0}) Failing

-- what is said of a check that does not hold
abbrev pub failing : Check → Failing
failing c = record { mark = c.mark; row = c.row; found = c.found; limit = c.limit }

-- the first that does not hold
unfoldable pub first_failing : List Check → Found
first_failing [] = Ok tt
first_failing (c ∷ cs) =
    let later = first_failing cs in
    pick c.holds later (Err (failing c))

abbrev pub judged : Found → Reached → Verdict
judged (Ok u) x = CouldBeSealed x
judged (Err f) x = CouldNotBeSealed f

-- the reader's refusal (16, 17, 18), the first mark that fails, or what the rows reach
unfoldable pub verdict_of : List ℕ → Answer Verdict
verdict_of r = answer (reading_fault r) (judged (first_failing (checks r)) (reached_of r))
