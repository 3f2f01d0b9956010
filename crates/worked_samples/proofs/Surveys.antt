-- A survey of all identifiers, of which the last wins, in a list of calls. The small surveys stand in
-- rules/proofs/Surveys.
use mathlib.Core.Path.{◌≡◌, refl}
use mathlib.Core.List.{List, [], ◌∷◌, map}
use lib.ListN.{take, drop}
use Rattle.rules.specs.Bytes.{word32, network16, bytes_of, count, only, end_to_end}
use Rattle.rules.specs.Frames.{seconds, microseconds, stored_length, frame_time, body, frame_size, frames_up_to}
use Rattle.rules.specs.Frames.{rest_up_to, frames, rest, behind_header}
use Rattle.rules.specs.Packets.{ip_length, udp_length, carries, packets_from, packets_in, packets_of, packets, whole}
use Rattle.rules.specs.Packets.{starts_cell, damage_mark, condition, identifier}
use Rattle.rules.specs.Capture.{whole_frames, unfinished, all_frames, showing, too_long, wrong_magic, wrong_link}
use Rattle.rules.specs.Capture.{wrong_frame_header, wrong_frame, format_fault, capture_inside}
use Rattle.rules.specs.Seal.{capture_unfinished}
use Rattle.rules.specs.Survey.{good_of, good_packets, with_most, survey_feed_answer, no_good, survey_fault}
use Rattle.rules.specs.Survey.{survey_answer, feed_survey, ask_survey}
use Rattle.rules.specs.Survey.{survey_expected}
use Rattle.rules.proofs.Worked.{Case}
use Rattle.rules.proofs.Samples.{frame_header}
use Rattle.rules.proofs.Surveys.{told_of, ends}

pub surveys : List Case
surveys =
    -- a question between the pieces changes nothing, and a refused feed ends it
    record {
      rule =
          end_to_end
          (map told_of
          (survey_expected []
          (ask_survey ∷ feed_survey (take 300 ends) ∷ ask_survey ∷ feed_survey (drop 300 ends) ∷ ask_survey
          ∷ feed_survey (frame_header 0 1000000 0)
          ∷ ask_survey
          ∷ [])));
      paper = 11 ∷ 0 ∷ 0 ∷ 300 ∷ 11 ∷ 300 ∷ 0 ∷ 346 ∷ 0 ∷ 8191 ∷ 2 ∷ 7 ∷ 653 ∷ 7 ∷ 653 ∷ [];
    }
    ∷ []

-- the theorem: the rules give what the paper says
pub surveyed : map (λ (c : Case). c.rule) surveys ≡ map (λ (c : Case). c.paper) surveys
unfolding surveys ends word32 network16 bytes_of count only end_to_end seconds microseconds stored_length frame_time
    body frame_size frames_up_to rest_up_to frames rest behind_header ip_length udp_length carries packets_from
    packets_in packets_of packets whole starts_cell damage_mark condition identifier whole_frames unfinished
    all_frames showing too_long wrong_magic wrong_link wrong_frame_header wrong_frame format_fault capture_inside
    capture_unfinished good_of good_packets with_most survey_feed_answer no_good survey_fault survey_answer
    survey_expected
surveyed = refl
