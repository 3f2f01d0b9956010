-- Document 02, R-4: worked surveys, as a table with one theorem over its entries.
use Prim.Native.Nat.{ℕ}
use mathlib.Core.Path.{◌≡◌, refl}
use mathlib.Core.List.{List, [], ◌∷◌, ◌++◌, map}
use lib.ListN.{take, set}
use Rattle.std.specs.Prelude.{Ok, Err}
use Rattle.rules.specs.declared.Most.{Most}
use Rattle.rules.specs.Refusals.{Answer}
use Rattle.rules.specs.Bytes.{word32, network16, bytes_of, count, only, end_to_end}
use Rattle.rules.specs.Frames.{seconds, microseconds, stored_length, frame_time, body, frame_size, frames_up_to}
use Rattle.rules.specs.Frames.{rest_up_to, frames, rest, behind_header}
use Rattle.rules.specs.Packets.{ip_length, udp_length, carries, packets_from, packets_in, packets_of, packets, whole}
use Rattle.rules.specs.Packets.{starts_cell, damage_mark, condition, identifier}
use Rattle.rules.specs.Capture.{whole_frames, unfinished, all_frames, showing, too_long, wrong_magic, wrong_link}
use Rattle.rules.specs.Capture.{wrong_frame_header, wrong_frame, format_fault, capture_inside}
use Rattle.rules.specs.Seal.{capture_unfinished}
use Rattle.rules.specs.Survey.{good_of, good_packets, with_most, survey_feed_answer, no_good, survey_fault}
use Rattle.rules.specs.Survey.{survey_answer, SurveyOutcome, fed_survey, found, survey_expected}
use Rattle.rules.proofs.Worked.{Case}
use Rattle.rules.proofs.Samples.{told, told_fault, file_header, good_header, frame_header, frame_with, packet_of}

-- 0, identifier and count; or a refusal's number and place
abbrev pub told_most : Answer Most → List ℕ
told_most (Ok x) = 0 ∷ x.identifier ∷ x.count ∷ []
told_most (Err e) = e.number ∷ e.place ∷ []

abbrev pub told_of : SurveyOutcome → List ℕ
told_of (fed_survey a) = told a
told_of (found a) = told_most a

survey : List ℕ → List ℕ
survey capture = told_most (survey_answer capture)

-- a packet of this identifier, and the same with another first byte, and marked as damaged
abbrev pub good : ℕ → List ℕ
good id = packet_of id 0 0

abbrev bad : ℕ → List ℕ
bad id = set (packet_of id 0 0) 0 0x46

abbrev damaged : ℕ → List ℕ
damaged id = packet_of id 0x80 0

-- a capture of one frame with three packets
abbrev with3 : List ℕ → List ℕ → List ℕ → List ℕ
with3 a b c = good_header ++ frame_with 0 0 3 (a ++ b ++ c)

only_bad : List ℕ
only_bad = good_header ++ frame_with 0 0 1 (bad 3)

-- identifier 8191 twice, and 0 between
unfoldable pub ends : List ℕ
ends = good_header ++ frame_with 1 2 3 (good 8191 ++ good 0 ++ good 8191)

-- one packet of 3, and two of 2 in a frame that is passed over: a fragment
passed : List ℕ
passed = good_header ++ frame_with 0 0 1 (good 3) ++ set (frame_with 0 0 2 (good 2 ++ good 2)) 36 0x20

-- the one with most of the identifiers below n, and its count: most cases need no more of them than they name
among : ℕ → List ℕ → List ℕ
among n capture =
    let counts = good_packets capture in
    let best = with_most counts n in
    best ∷ counts best ∷ []

pub surveys : List Case
surveys =
    -- most wins: 7 twice, 6 once; the lowest among equals, whichever comes first
    record { rule = among 9 (with3 (good 7) (good 6) (good 7)); paper = 7 ∷ 2 ∷ [] }
    ∷ record { rule = among 9 (with3 (good 8) (good 6) (bad 6)); paper = 6 ∷ 1 ∷ [] }
    -- what does not start with 0x47 is not good
    ∷ record { rule = among 7 (with3 (bad 5) (bad 5) (good 6)); paper = 6 ∷ 1 ∷ [] }
    -- a frame that is passed over brings nothing
    ∷ record { rule = among 4 passed; paper = 3 ∷ 1 ∷ [] }
    -- 21: no good packet, of a complete capture: 11 comes first
    ∷ record { rule = among 4 only_bad ++ told_fault (survey_fault only_bad 0); paper = 0 ∷ 0 ∷ 21 ∷ 0 ∷ [] }
    ∷ record { rule = told_fault (survey_fault good_header 0) ++ survey []; paper = 21 ∷ 0 ∷ 11 ∷ 0 ∷ [] }
    ∷ record { rule = survey (take 23 good_header) ++ survey (only_bad ++ 0 ∷ []); paper = 11 ∷ 23 ∷ 11 ∷ 271 ∷ [] }
    -- 4 to 8 come first of all: 5, 6, 7 and 8
    ∷ record { rule = survey (0 ∷ 0 ∷ 0 ∷ 0 ∷ []) ++ survey (file_header 0xA1B2C3D4 101); paper = 5 ∷ 3 ∷ 6 ∷ 23 ∷ [] }
    ∷ record {
      rule = survey (ends ++ frame_header 0 1000000 65536) ++ survey (ends ++ frame_header 0 999999 65536);
      paper = 7 ∷ 653 ∷ 8 ∷ 657 ∷ [];
    }
    ∷ []

-- the theorem: the rules give what the paper says
pub surveyed : map (λ (c : Case). c.rule) surveys ≡ map (λ (c : Case). c.paper) surveys
unfolding surveys among survey only_bad ends passed word32 network16 bytes_of count only end_to_end seconds
    microseconds stored_length frame_time body frame_size frames_up_to rest_up_to frames rest behind_header ip_length
    udp_length carries packets_from packets_in packets_of packets whole starts_cell damage_mark condition identifier
    whole_frames unfinished all_frames showing too_long wrong_magic wrong_link wrong_frame_header wrong_frame
    format_fault capture_inside capture_unfinished good_of good_packets with_most survey_feed_answer no_good
    survey_fault survey_answer survey_expected
surveyed = refl

-- what is marked as damaged is not good (R-6)
pub damaged_surveys : List Case
damaged_surveys =
    record { rule = among 8 (with3 (damaged 6) (damaged 6) (good 7)); paper = 7 ∷ 1 ∷ [] }
    ∷ record { rule = among 8 (with3 (damaged 5) (bad 5) (damaged 5)); paper = 0 ∷ 0 ∷ [] }
    ∷ []

pub surveyed-damaged : map (λ (c : Case). c.rule) damaged_surveys ≡ map (λ (c : Case). c.paper) damaged_surveys
unfolding damaged_surveys among survey only_bad ends passed word32 network16 bytes_of count only end_to_end seconds
    microseconds stored_length frame_time body frame_size frames_up_to rest_up_to frames rest behind_header ip_length
    udp_length carries packets_from packets_in packets_of packets whole starts_cell damage_mark condition identifier
    whole_frames unfinished all_frames showing too_long wrong_magic wrong_link wrong_frame_header wrong_frame
    format_fault capture_inside capture_unfinished good_of good_packets with_most survey_feed_answer no_good
    survey_fault survey_answer survey_expected
surveyed-damaged = refl
