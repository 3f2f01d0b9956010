-- Small samples: a loss across a unit's start, the editions, and the small input of each refusal but 9. Each is a
-- theorem that the checker computes. Whole samples, from the bytes to the record, and 9 take longer: they stand in the
-- crate worked_samples, so that a wrong rule is refused here at once.
use Prim.Native.Nat.{ℕ, ◌+◌, ◌*◌, ◌/◌, ◌%◌}
use native.Mathlib.Omega.{arith}
use borrow.Author.Tests.{lt-ltb}
use mathlib.Core.Path.{◌≡◌, refl}
use mathlib.Core.List.{List, [], ◌∷◌, ◌++◌, map}
use lib.ListN.{length, replicate, set}
use lib.Ieee.{binary64, add, mul, div, of_int, to_bits}
use Rattle.rules.specs.declared.Opening.{Opening}
use Rattle.std.specs.Prelude.{Ok, Err}
use Rattle.rules.specs.declared.Index.{Index}
use Rattle.rules.specs.Refusals.{Answer, Fault, none, fault}
use Rattle.rules.specs.Bytes.{word32, word64, network16, bytes_of, total, greatest_of, least_of, count, only, table}
use Rattle.rules.specs.Bytes.{parts, end_to_end}
use Rattle.rules.specs.Editions.{is_edition, heeds_splices, rounds_to_nearest, knows_damage}
use Rattle.rules.specs.Opening.{good_size, good_time, good_pid, opening_fault, open_answer, level_up_to, level, side}
use Rattle.rules.specs.Opening.{area, columns, lines}
use Rattle.rules.specs.Frames.{seconds, microseconds, stored_length, frame_time, body, frame_size, frames_up_to}
use Rattle.rules.specs.Frames.{rest_up_to, frames, rest, behind_header}
use Rattle.rules.specs.Packets.{Packet, ip_length, udp_length, carries, skipped, packets_from, packets_in, packets_of}
use Rattle.rules.specs.Packets.{packets, shown, whole, starts_cell, damage_mark, condition, identifier, is_wanted}
use Rattle.rules.specs.Packets.{start_mark, counter, splice_mark, wanted_of, bad_of}
use Rattle.rules.specs.Units.{gap_loss, set_apart, loss_between, arrivals_after, arrivals, before_units, groups}
use Rattle.rules.specs.Units.{cells_of, least_time, unit_of, units_of, beginnings}
use Rattle.rules.specs.Capture.{whole_frames, unfinished, all_frames, whole_wanted, shown_wanted, units, frame_count}
use Rattle.rules.specs.Capture.{skipped_count, bad_count, showing, too_long, wrong_magic, wrong_link}
use Rattle.rules.specs.Capture.{wrong_frame_header, wrong_frame, too_many_units, format_fault, capture_fault}
use Rattle.rules.specs.Capture.{capture_inside}
use Rattle.rules.specs.Pictures.{picture_size, picture_count, pictures, luma_fault, rows, band, block_sum, pixel_in}
use Rattle.rules.specs.Pictures.{pixel, pixel_line, pixels}
use Rattle.rules.specs.Histograms.{third, tile_at, bin, in_tile_from, in_tile, in_bin, histogram, histograms}
use Rattle.rules.specs.Cuts.{bins_apart, per_million, tile_difference, tile_differences, insert, sorted, fifth}
use Rattle.rules.specs.Cuts.{difference, least_of_six, cut_score, cut_scores}
use Rattle.rules.specs.Scenes.{starts_scene, is_start, starts_from, starts, longest_from, scene_of, scenes_at}
use Rattle.rules.specs.Scenes.{scenes_of}
use Rattle.rules.specs.Changes.{same, squares, spread, root_from, root, nearest, change_from, change, repeats_after}
use Rattle.rules.specs.Changes.{changes_after, repeats, changes}
use Rattle.rules.specs.Index.{ic_of, ip_of, value_of, index_of, index_bits}
use Rattle.rules.specs.Record.{le32, record_length, scene_offset, header_bytes, unit_bytes, scene_bytes, record_bytes}
use Rattle.rules.specs.Reading.{scene_place, unit_place, allowed_header, allowed_unit, allowed_units, allowed_scene}
use Rattle.rules.specs.Reading.{allowed_scenes, allowed_rows, allowed, reading_fault, row_fault, unit_fault}
use Rattle.rules.specs.Reading.{scene_fault}
use Rattle.rules.specs.Seal.{reduced, scenes_in, scenes, unrepeated, index_from, index, header, sealed, sealed_length}
use Rattle.rules.specs.Seal.{capture_unfinished, no_packet, luma_unfinished, no_picture, no_room, seal_fault}
use Rattle.rules.specs.Seal.{capture_answer, luma_answer, seal_answer, over, sealed_buffer}
use Rattle.rules.specs.Calls.{Call, feed_capture, feed_luma, ask, seal, Outcome, fed, replied, Reply, sealed_into}
use Rattle.rules.specs.Calls.{indexed, counted, expected}
use Rattle.rules.proofs.Worked.{Case}

-- ---- the parts that samples are made of

-- a libpcap header of this first word and this link type
abbrev pub file_header : ℕ → ℕ → List ℕ
file_header magic link = le32 magic ++ replicate 16 0 ++ le32 link

abbrev pub good_header : List ℕ
good_header = file_header 0xA1B2C3D4 1

-- a frame's header, and a frame with n packets of 188 bytes
abbrev pub frame_header : ℕ → ℕ → ℕ → List ℕ
frame_header secs micros stored = le32 secs ++ le32 micros ++ le32 stored ++ le32 stored

abbrev pub big16 : ℕ → List ℕ
big16 n = (n / 256) ∷ (n % 256) ∷ []

abbrev pub frame_with : ℕ → ℕ → ℕ → List ℕ → List ℕ
frame_with secs micros n cells =
    frame_header secs micros (42 + 188 * n)
    ++ replicate 12 0 ++ 0x08 ∷ 0x00 ∷ 0x45 ∷ 0 ∷ []
    ++ big16 (28 + 188 * n) ++ replicate 5 0 ++ 17 ∷ []
    ++ replicate 14 0 ++ big16 (8 + 188 * n) ++ replicate 2 0
    ++ cells

-- a packet of this identifier: with its start mark (0x40) or without (0), and its counter
abbrev pub packet_of : ℕ → ℕ → ℕ → List ℕ
packet_of pid mark n = 0x47 ∷ (mark + pid / 256) ∷ (pid % 256) ∷ (0x10 + n) ∷ replicate 184 0xFF

-- a packet of this identifier with its counter n and a discontinuity indicator in an adaptation field of m bytes
abbrev spliced_of : ℕ → ℕ → ℕ → List ℕ
spliced_of pid n m = 0x47 ∷ (pid / 256) ∷ (pid % 256) ∷ (0x30 + n) ∷ m ∷ 0x80 ∷ replicate 182 0xFF

abbrev pub opened_by : ℕ → ℕ → ℕ → ℕ → ℕ → Opening
opened_by e w h d p = record { width = w; height = h; time = d; pid = p; edition = e }

abbrev pub opened : ℕ → ℕ → ℕ → ℕ → Opening
opened w h d p = opened_by 1 w h d p

-- what is lost in all, under an edition, of packets with the counters 3, 9 and 11, the second
-- with an indicator in m bytes
abbrev lost_by : ℕ → ℕ → List ℕ
lost_by e m =
    map (λ u. u.lost)
    (units (opened_by e 30 30 40000 256)
    (good_header ++ frame_with 0 0 3 (packet_of 256 0x40 3 ++ spliced_of 256 9 m ++ packet_of 256 0 11)))

-- the scenes' sums of q, under an edition, of two pictures of 128 pixels: grey, then one pixel higher and one lower
abbrev changed_by : ℕ → List ℕ
changed_by e =
    map (λ s. s.change)
    (scenes_in (opened_by e 15 30 40000 256) (replicate 128 7 ∷ (8 ∷ 6 ∷ replicate 126 7) ∷ []))

unfoldable pub words : List ℕ → List ℕ
words ns = end_to_end (map le32 ns)

-- ---- what calls come to, as numbers: 0 and the length, or a refusal's number and place;
-- behind a seal's the whole buffer

abbrev pub told : Answer ℕ → List ℕ
told (Ok n) = 0 ∷ n ∷ []
told (Err e) = e.number ∷ e.place ∷ []

-- of an index: 0 and the bits of Ic, Ip and the index
abbrev told_index : Answer Index → List ℕ
told_index (Ok i) = 0 ∷ to_bits binary64 i.ic ∷ to_bits binary64 i.ip ∷ to_bits binary64 i.value ∷ []
told_index (Err e) = e.number ∷ e.place ∷ []

abbrev told_in : Reply → List ℕ
told_in (sealed_into a buffer) = told a ++ buffer
told_in (indexed a) = told_index a
told_in (counted a) = told a

abbrev told_of : Outcome → List ℕ
told_of (fed a) = told a
told_of (replied r) = told_in r

abbrev pub told_fault : Fault → List ℕ
told_fault none = 0 ∷ 0 ∷ []
told_fault (fault k p) = k ∷ p ∷ []

unfoldable pub run : Opening → List Call → List ℕ
run o cs = told (open_answer o) ++ end_to_end (map told_of (expected o [] [] cs))

-- the opening of the small samples: the least picture, 15 by 30, and the longest display time
abbrev pub small : Opening
small = opened 15 30 200000 256

-- a capture of one frame with one packet of PID, and a picture of one value
unfoldable pub one_frame : List ℕ
one_frame = good_header ++ frame_with 10 5 1 (packet_of 256 0x40 0)

unfoldable pub picture : ℕ → List ℕ
picture v = replicate 450 v

-- n packets of PID with start marks, one behind the other, as far as they show what they are
unfoldable pub marks : ℕ → List Packet
marks n = table n 0 (λ i. record { time = 0; place = 188 * i; bytes = 0x47 ∷ 0x41 ∷ 0x00 ∷ 0x10 ∷ [] })

-- ---- the record of document 01's example of `show`

unfoldable pub show_record : List ℕ
show_record =
    words (1 ∷ 128 ∷ 1 ∷ 64 ∷ 1 ∷ 96 ∷ 30 ∷ 30 ∷ 40000 ∷ 256 ∷ 2 ∷ 1 ∷ 0 ∷ 0 ∷ 0 ∷ 0x40080000 ∷ [])
    ++ words (10000005 ∷ 0 ∷ 10000005 ∷ 0 ∷ 184 ∷ 1 ∷ 0 ∷ 0 ∷ [])
    ++ words (0 ∷ 2 ∷ 1 ∷ 1 ∷ 0 ∷ 0 ∷ 0 ∷ 0 ∷ [])

-- a seal's answer alone, for a buffer of n bytes
sealing : Opening → List ℕ → List ℕ → ℕ → List ℕ
sealing o capture luma n = told (seal_answer o capture luma n)

-- what a feed of a whole capture answers
feeding : List ℕ → List ℕ
feeding capture = told (capture_answer small capture (length capture))

pub samples : List Case
samples =
    -- a loss across a unit's start: counters 3, then 5 with a start mark, then 6; the one lost is the second unit's. A
    -- bad and a foreign packet stand between
    record {
      rule =
          end_to_end
          (map unit_bytes
          (units small
          (good_header
          ++ frame_with 1 0 3 (packet_of 256 0 3 ++ set (packet_of 256 0 9) 0 0x46 ++ packet_of 257 0x40 9)
          ++ frame_with 0 7 2 (packet_of 256 0x40 5 ++ packet_of 256 0 6))));
      paper = words (1000000 ∷ 0 ∷ 1000000 ∷ 0 ∷ 184 ∷ 1 ∷ 0 ∷ 0 ∷ []) ++ words (7 ∷ 0 ∷ 7 ∷ 0 ∷ 368 ∷ 2 ∷ 1 ∷ 0 ∷ []);
    }
    -- a fragment is passed over; a datagram marked as not to be fragmented carries
    ∷ record {
      rule = skipped_count (good_header ++ set (frame_with 0 0 1 (packet_of 256 0 0)) 36 0x20)
          ∷ skipped_count (good_header ++ set (frame_with 0 0 1 (packet_of 256 0 0)) 36 0x40) ∷ [];
      paper = 1 ∷ 0 ∷ [];
    }
    -- 1: 640 by 29. 2: 9,999. 3: 8192. Feeds and seals repeat the opening's number
    ∷ record {
      rule = run (opened 640 29 9999 8192) (feed_capture (0 ∷ []) ∷ feed_luma [] ∷ ask (seal (7 ∷ [])) ∷ []);
      paper = 1 ∷ 0 ∷ 1 ∷ 0 ∷ 1 ∷ 0 ∷ 1 ∷ 0 ∷ 7 ∷ [];
    }
    ∷ record {
      rule = run (opened 640 30 9999 8192) [] ++ run (opened 640 480 40000 8192) [];
      paper = 1 ∷ 0 ∷ 3 ∷ 0 ∷ [];
    }
    ∷ record { rule = run (opened 640 480 9999 8192) []; paper = 2 ∷ 0 ∷ [] }
    -- 20: editions 0 and 5, behind 3; 1 to 4 pass
    ∷ record {
      rule =
          run (opened_by 0 640 480 40000 256) []
          ++ run (opened_by 5 640 480 40000 256) []
          ++ run (opened_by 5 640 480 40000 8192) [];
      paper = 20 ∷ 0 ∷ 20 ∷ 0 ∷ 3 ∷ 0 ∷ [];
    }
    ∷ record { rule = end_to_end (table 4 1 (λ e. run (opened_by e 640 480 40000 256) [])); paper = replicate 8 0 }
    -- a splice: its own gap of 6 loses 5 under edition 1 and nothing under 2 to 4, the gap of 2 behind it loses one;
    -- no indicator in no bytes
    ∷ record { rule = end_to_end (table 4 1 (λ e. lost_by e 7)) ++ lost_by 2 0; paper = 6 ∷ 1 ∷ 1 ∷ 1 ∷ 6 ∷ [] }
    -- a scene's sum of q by the editions 1 to 4: one picture's is 12.5
    ∷ record { rule = end_to_end (table 4 1 changed_by); paper = 12 ∷ 12 ∷ 13 ∷ 13 ∷ [] }
    -- 17: the reader takes editions 1 to 4 and not 5
    ∷ record {
      rule = end_to_end (table 5 1 (λ e. told_fault (reading_fault (set show_record 0 e))));
      paper = replicate 8 0 ++ 17 ∷ 0 ∷ [];
    }
    -- 5: A1 B2 C3 D4, shown by the fourth byte alone, and by the first of the four that is wrong
    ∷ record {
      rule = run small (feed_capture (0xA1 ∷ 0xB2 ∷ 0xC3 ∷ []) ∷ feed_capture (0xD4 ∷ 0 ∷ []) ∷ feed_capture [] ∷ []);
      paper = 0 ∷ 0 ∷ 0 ∷ 3 ∷ 5 ∷ 3 ∷ 5 ∷ 3 ∷ [];
    }
    -- 6: 101
    ∷ record { rule = feeding (file_header 0xA1B2C3D4 101); paper = 6 ∷ 23 ∷ [] }
    -- 7: 1,000,000. 8: 65,536. 7 comes first of one header; the limits themselves pass
    ∷ record { rule = feeding (good_header ++ frame_header 0 1000000 65536); paper = 7 ∷ 31 ∷ [] }
    ∷ record { rule = feeding (good_header ++ frame_header 0 999999 65536); paper = 8 ∷ 35 ∷ [] }
    ∷ record { rule = feeding (good_header ++ frame_header 0 999999 65535); paper = 0 ∷ 40 ∷ [] }
    -- 11: an empty capture; a header that is cut off. 12: a header alone; a packet of another identifier
    ∷ record { rule = sealing small [] [] 0 ++ sealing small (0xD4 ∷ []) [] 0; paper = 11 ∷ 0 ∷ 11 ∷ 1 ∷ [] }
    ∷ record {
      rule = sealing small good_header [] 0
          ++ sealing small (good_header ++ frame_with 0 0 1 (packet_of 255 0x40 0)) [] 0;
      paper = 12 ∷ 0 ∷ 12 ∷ 0 ∷ [];
    }
    -- 13: one byte. 14: empty luma. 15: 127 for 128
    ∷ record { rule = sealing small one_frame (0 ∷ []) 0 ++ sealing small one_frame [] 0; paper = 13 ∷ 1 ∷ 14 ∷ 0 ∷ [] }
    ∷ record {
      rule = sealing small one_frame (picture 0) 127 ++ sealing small one_frame (picture 0) 128;
      paper = 15 ∷ 128 ∷ 0 ∷ 128 ∷ [];
    }
    -- 16: 63 bytes. 17: edition 0. 18: a row's word 28 is 1. 19: row 1 of 1
    ∷ record {
      rule = told_fault (reading_fault (replicate 63 1)) ++ told_fault (reading_fault (set show_record 0 0))
          ++ told_fault (reading_fault (set show_record 92 1));
      paper = 16 ∷ 0 ∷ 17 ∷ 0 ∷ 18 ∷ 0 ∷ [];
    }
    ∷ record {
      rule = told_fault (unit_fault show_record 0) ++ told_fault (unit_fault show_record 1)
          ++ told_fault (scene_fault show_record 1);
      paper = 0 ∷ 0 ∷ 19 ∷ 0 ∷ 19 ∷ 0 ∷ [];
    }
    ∷ []

-- the theorem: the rules give what the paper says
pub sampled : map (λ (c : Case). c.rule) samples ≡ map (λ (c : Case). c.paper) samples
unfolding words run marks one_frame picture show_record sealing feeding samples open_answer unit_place scene_place
    allowed_header allowed_unit allowed_units allowed_scene allowed_scenes allowed_rows allowed reading_fault
    row_fault is_edition unit_fault scene_fault word32 word64 network16 bytes_of total greatest_of least_of count only
    table parts end_to_end good_size good_time good_pid opening_fault level_up_to level side area columns lines
    seconds microseconds stored_length frame_time body frame_size frames_up_to rest_up_to frames rest behind_header
    ip_length udp_length carries skipped packets_from packets_in packets_of packets shown whole starts_cell
    damage_mark condition identifier is_wanted start_mark counter wanted_of bad_of gap_loss set_apart loss_between
    heeds_splices knows_damage splice_mark arrivals_after arrivals before_units groups cells_of least_time unit_of
    units_of beginnings whole_frames unfinished all_frames whole_wanted shown_wanted units frame_count skipped_count
    bad_count showing too_long wrong_magic wrong_link wrong_frame_header wrong_frame too_many_units format_fault
    capture_fault capture_inside picture_size picture_count pictures luma_fault rows band block_sum pixel_in pixel
    pixel_line pixels third tile_at bin in_tile_from in_tile in_bin histogram histograms bins_apart per_million
    tile_difference tile_differences insert sorted fifth difference least_of_six cut_score cut_scores starts_scene
    is_start starts_from starts longest_from scene_of scenes_at scenes_of same squares spread root_from root nearest
    change_from rounds_to_nearest change repeats_after changes_after repeats changes ic_of ip_of value_of index_of
    index_bits record_length scene_offset header_bytes unit_bytes scene_bytes record_bytes reduced scenes_in scenes
    unrepeated index_from index header sealed sealed_length capture_unfinished no_packet luma_unfinished no_picture
    no_room seal_fault capture_answer luma_answer seal_answer over sealed_buffer expected add mul div of_int to_bits
sampled = refl

-- 4 and 10, whose small inputs are too long to be written out: by their length. One byte past
-- 268,435,456, and 751 pictures
pub too_long_lem : (capture : List ℕ) → length capture ≡ 268435457 → too_long capture ≡ fault 4 268435456
unfolding too_long showing
too_long_lem capture h = rw (lt-ltb 268435456 (length capture) (omega arith))

pub too_many : (luma : List ℕ) → length luma ≡ 751 * 450 → luma_fault small luma ≡ fault 10 337500
unfolding luma_fault picture_size
too_many luma h = rw (lt-ltb 337500 (length luma) (omega arith))
