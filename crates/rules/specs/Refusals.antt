-- Refusals: a number of the table of documents 01 and 02 with its place, and the answers that are made of them. Each
-- number stands at the definition that gives it:
--   opening  1, 2, 3, 20  Opening.opening_fault
--   capture  4 Capture.too_long, 5 Capture.wrong_magic, 6 Capture.wrong_link, 7 and 8 Capture.wrong_frame_header,
--            9 Capture.too_many_units (begins_at)
--   luma     10 Pictures.luma_fault
--   seal     11 Seal.capture_unfinished, 12 Seal.no_packet, 13 Seal.luma_unfinished, 14 Seal.no_picture,
--            15 Seal.no_room
--   index    the opening's, 4 to 10, 12, 14: WhileFeeding.index_fault
--   passage  the opening's, then 26: Passage.repeats_fault
--   reading  16, 17, 18 Reading.reading_fault, 19 Reading.row_fault
--   sheet    16, 17, 18, then 15: Sheet.sheet_answer
--   survey   4 to 8, then 11, then 21: Survey.survey_fault (21 Survey.no_good)
--   losses   22 and 23 EffectiveLoss.loss_fault
--   busiest  2, then 14 or 10: Busiest.most_fault; 1 before them: Busiest.busiest_fault
--   gaps     24, then 15: GapRuns.gap_fault
--   RTP      25, then 15: Rtp.rtp_fault
--   shelf    27, 28: Shelf.shelf_fault, then 19: Shelf.part_fault
use Rattle.std.specs.Prelude.{ℕ, ◌≤◌, Bool, true, false, Result, Ok, Err}
use Rattle.rules.specs.declared.refusals.Refusal.{Refusal}
use Rattle.rules.specs.Bytes.{pick, within}

-- a refusal's number and its place (0 where document 01 names none), or none
pub data Fault : Type 0 where
  none : Fault
  fault : ℕ → ℕ → Fault

-- refusal k at no place, unless the test passes
abbrev pub unless : Bool → ℕ → Fault
unless true k = none
unless false k = fault k 0

infixr 20 ◌or_else◌
-- the first that is one
abbrev pub ◌or_else◌ : Fault → Fault → Fault
none or_else f = f
fault k p or_else f = fault k p

-- what a call answers: what it gives, or the refusal
abbrev pub Answer : Type 0 → Type 0
Answer X = Result X Refusal

-- refusal k at place p
abbrev pub refused : {X : Type 0} → ℕ → ℕ → Answer X
refused k p = Err (record { number = k; place = p })

-- the refusal, or else what is given: a length, figures, a row
abbrev pub answer : {X : Type 0} → Fault → X → Answer X
answer none x = Ok x
answer (fault k p) x = refused k p

-- ---- the table's numbers, from 1 on

-- the last of them: 20 joined with document 02, R-2, 21 with R-4, 22 and 23 with R-8, 24 with R-10, 25 with
-- R-11, 26 with R-12, 27 and 28 with R-13
abbrev pub last_number : ℕ
last_number = 28

abbrev pub InTable : ℕ → Type 0
InTable k = (1 ≤ k) × (k ≤ last_number)

-- a refusal's number. Those of the rules are in the table (proofs/Laws/Listed); a state that somebody else wrote on
-- can hold another, and gets 18
abbrev pub listed : ℕ → ℕ
listed k = pick (within 1 last_number k) k 18
