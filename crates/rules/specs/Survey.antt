-- Document 02, R-4: which stream is the picture. A survey is fed a capture in pieces, knows no PID and no edition, and
-- gives the identifier with most good packets (document 02: good cells), the lowest among equals, with its count.
use Rattle.std.specs.Prelude.{ℕ, zero, suc, ◌≤◌, ◌<◌, ◌≡◌, List, [], ◌∷◌, ◌++◌, ◌&&◌, length, ltb, eqb}
use Rattle.rules.specs.declared.Most.{Most}
use Rattle.rules.specs.Refusals.{Answer, Fault, none, fault, ◌or_else◌, answer}
use Rattle.rules.specs.Bytes.{pick, count}
use Rattle.rules.specs.Packets.{Packet, packets, whole, condition, is_good, identifier}
use Rattle.rules.specs.Capture.{all_frames, format_fault}
use Rattle.rules.specs.Seal.{capture_unfinished}

-- ---- good packets

-- how many of some packets are good and have this identifier. A damaged one is not good (document 02, R-6), whatever
-- the edition
unfoldable pub good_of : List Packet → ℕ → ℕ
good_of ps id = count (λ p. is_good (condition p.bytes) && eqb (identifier p.bytes) id) ps

-- how many good packets a capture has under this identifier: of the frames that carry, the packets that are whole
unfoldable pub good_packets : List ℕ → ℕ → ℕ
good_packets capture = good_of (whole (packets 24 (all_frames capture)))

-- ---- the identifier with most

-- how many identifiers there are: 0 to 8191, all of which compete
abbrev pub identifiers : ℕ
identifiers = 8192

-- of the identifiers below n: the one with most, the lowest among equals
unfoldable pub with_most : (ℕ → ℕ) → ℕ → ℕ
with_most counts zero = 0
with_most counts (suc n) = let best = with_most counts n in pick (ltb (counts best) (counts n)) n best

-- what that says (capture_laws/Survey shows it, and that no two have it): id is an identifier, none below n
-- has more, and every lower one has fewer
pub record HasMost (counts : ℕ → ℕ) (n id : ℕ) : Type 0 where
  pub below : id < identifiers
  pub most : (j : ℕ) → j < n → counts j ≤ counts id
  pub lowest : (j : ℕ) → j < id → counts j < counts id

-- ---- answers

-- of a feed of n bytes, after which the joined bytes are these: 4 to 8, or the length
unfoldable pub survey_feed_answer : List ℕ → ℕ → Answer ℕ
survey_feed_answer capture n = answer (format_fault capture) n

-- 21: a complete capture without a good packet
unfoldable pub no_good : ℕ → Fault
no_good most = pick (eqb most 0) (fault 21 0) none

-- of a survey whose best identifier has so many: 4 to 8, then 11, then 21
unfoldable pub survey_fault : List ℕ → ℕ → Fault
survey_fault capture most = format_fault capture or_else capture_unfinished capture or_else no_good most

-- what the survey of these joined bytes answers
unfoldable pub survey_answer : List ℕ → Answer Most
survey_answer capture =
    let counts = good_packets capture in
    let best = with_most counts identifiers in
    answer (survey_fault capture (counts best)) (record { identifier = best; count = counts best })

-- what an identifier that is answered says of the capture (capture_laws/Survey)
pub record MostIn (capture : List ℕ) (id n : ℕ) : Type 0 where
  pub counted : n ≡ good_packets capture id
  pub some : 0 < n
  pub first : HasMost (good_packets capture) identifiers id

-- ---- lists of calls, after the opening of a fresh survey

-- a call: a feed, with its piece, or the question
pub data SurveyCall : Type 0 where
  feed_survey : List ℕ → SurveyCall
  ask_survey : SurveyCall

-- what a call comes to
pub data SurveyOutcome : Type 0 where
  fed_survey : Answer ℕ → SurveyOutcome
  found : Answer Most → SurveyOutcome

-- what the calls come to that are made after these joined bytes; the question changes nothing
unfoldable pub survey_expected : List ℕ → List SurveyCall → List SurveyOutcome
survey_expected capture [] = []
survey_expected capture (feed_survey piece ∷ cs) =
    fed_survey (survey_feed_answer (capture ++ piece) (length piece)) ∷ survey_expected (capture ++ piece) cs
survey_expected capture (ask_survey ∷ cs) = found (survey_answer capture) ∷ survey_expected capture cs

-- the joined bytes after these calls, refused feeds among them
unfoldable pub survey_fed : List SurveyCall → List ℕ
survey_fed [] = []
survey_fed (feed_survey piece ∷ cs) = piece ++ survey_fed cs
survey_fed (ask_survey ∷ cs) = survey_fed cs
