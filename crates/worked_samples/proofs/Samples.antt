-- Whole samples, through every rule from the bytes to the answers: the example of document 01's `show`, a scene cut,
-- and refusal 9 by 751 start marks, and with one of them damaged (document 02, R-6). Each is a theorem that the
-- checker computes. The small samples stand in rules/proofs/Samples.
use mathlib.Core.Path.{◌≡◌, refl}
use mathlib.Core.List.{List, [], ◌∷◌, ◌++◌, map}
use lib.ListN.{replicate, drop}
use lib.Ieee.{add, mul, div, of_int, to_bits}
use Rattle.rules.specs.Bytes.{word32, word64, network16, bytes_of, total, greatest_of, least_of, count, only, table}
use Rattle.rules.specs.Bytes.{parts, end_to_end}
use Rattle.rules.specs.Editions.{is_edition, heeds_splices, rounds_to_nearest, knows_damage}
use Rattle.rules.specs.Opening.{good_size, good_time, good_pid, opening_fault, open_answer, level_up_to, level, side}
use Rattle.rules.specs.Opening.{area, columns, lines}
use Rattle.rules.specs.Frames.{seconds, microseconds, stored_length, frame_time, body, frame_size, frames_up_to}
use Rattle.rules.specs.Frames.{rest_up_to, frames, rest, behind_header}
use Rattle.rules.specs.Packets.{Packet, ip_length, udp_length, carries, skipped, packets_from, packets_in, packets_of}
use Rattle.rules.specs.Packets.{packets, shown, whole, starts_cell, damage_mark, condition, identifier, is_wanted}
use Rattle.rules.specs.Packets.{start_mark, counter, splice_mark, wanted_of, bad_of}
use Rattle.rules.specs.Units.{gap_loss, set_apart, loss_between, arrivals_after, arrivals, before_units, groups}
use Rattle.rules.specs.Units.{cells_of, least_time, unit_of, units_of, beginnings}
use Rattle.rules.specs.Capture.{whole_frames, unfinished, all_frames, whole_wanted, shown_wanted, units, frame_count}
use Rattle.rules.specs.Capture.{skipped_count, bad_count, showing, too_long, wrong_magic, wrong_link}
use Rattle.rules.specs.Capture.{wrong_frame_header, wrong_frame, too_many_units, begins_at, format_fault}
use Rattle.rules.specs.Capture.{capture_fault}
use Rattle.rules.specs.Capture.{capture_inside}
use Rattle.rules.specs.Pictures.{picture_size, picture_count, pictures, luma_fault, rows, band, block_sum, pixel_in}
use Rattle.rules.specs.Pictures.{pixel, pixel_line, pixels}
use Rattle.rules.specs.Histograms.{third, tile_at, bin, in_tile_from, in_tile, in_bin, histogram, histograms}
use Rattle.rules.specs.Cuts.{bins_apart, per_million, tile_difference, tile_differences, insert, sorted, fifth}
use Rattle.rules.specs.Cuts.{difference, least_of_six, cut_score, cut_scores}
use Rattle.rules.specs.Scenes.{starts_scene, is_start, starts_from, starts, longest_from, scene_of, scenes_at}
use Rattle.rules.specs.Scenes.{scenes_of}
use Rattle.rules.specs.Changes.{same, squares, spread, root_from, root, nearest, change_from, change}
use Rattle.rules.specs.Changes.{repeats_after, changes_after, repeats, changes}
use Rattle.rules.specs.Index.{ic_of, ip_of, value_of, index_of, index_bits}
use Rattle.rules.specs.Record.{record_length, scene_offset, header_bytes, unit_bytes, scene_bytes, record_bytes}
use Rattle.rules.specs.Reading.{scene_place, unit_place, allowed_header, allowed_unit, allowed_units, allowed_scene}
use Rattle.rules.specs.Reading.{allowed_scenes, allowed_rows, allowed, reading_fault, row_fault, unit_fault}
use Rattle.rules.specs.Reading.{scene_fault}
use Rattle.rules.specs.Seal.{reduced, scenes_in, scenes, unrepeated, index_from, index, header, sealed}
use Rattle.rules.specs.Seal.{sealed_length, capture_unfinished, no_packet, luma_unfinished, no_picture, no_room}
use Rattle.rules.specs.Seal.{seal_fault, capture_answer, luma_answer, seal_answer, over, sealed_buffer}
use Rattle.rules.specs.Calls.{feed_capture, feed_luma, ask, seal}
use Rattle.rules.specs.Calls.{expected}
use Rattle.rules.proofs.Worked.{Case}
use Rattle.rules.proofs.Samples.{opened, words, told_fault, run, small, one_frame}
use Rattle.rules.proofs.Samples.{marks, show_record}

-- 750 start marks and a damaged one
one_broken : List Packet
one_broken = marks 750 ++ record { time = 0; place = 141000; bytes = 0x47 ∷ 0xC1 ∷ 0x00 ∷ 0x10 ∷ [] } ∷ []

pub samples : List Case
samples =
    -- `show`'s example, into a buffer of two bytes more
    record {
      rule =
          run (opened 30 30 40000 256)
          (feed_capture one_frame ∷ feed_luma (replicate 1800 16) ∷ ask (seal (replicate 130 0xA5)) ∷ []);
      paper = 0 ∷ 0 ∷ 0 ∷ 270 ∷ 0 ∷ 1800 ∷ 0 ∷ 128 ∷ show_record ++ 0xA5 ∷ 0xA5 ∷ [];
    }
    -- a cut from black to white at picture 3 of 6: s is 1,000,000 there, and q is 0, since every pixel rises alike
    ∷ record {
      rule = sealed small one_frame (replicate 1350 16 ++ replicate 1350 235);
      paper =
          words (1 ∷ 160 ∷ 1 ∷ 64 ∷ 2 ∷ 96 ∷ 15 ∷ 30 ∷ 200000 ∷ 256 ∷ 6 ∷ 1 ∷ 0 ∷ 0 ∷ 0xAAAAAAAA ∷ 0x4002AAAA ∷ [])
          ++ words (10000005 ∷ 0 ∷ 10000005 ∷ 0 ∷ 184 ∷ 1 ∷ 0 ∷ 0 ∷ [])
          ++ words (0 ∷ 3 ∷ 2 ∷ 2 ∷ 0 ∷ 0 ∷ 0 ∷ 0 ∷ [])
          ++ words (3 ∷ 3 ∷ 2 ∷ 2 ∷ 1000000 ∷ 1000000 ∷ 0 ∷ 0 ∷ []);
    }
    -- 9: 751 start marks; 750 pass
    ∷ record {
      rule = told_fault (begins_at (drop 750 (beginnings 1 (marks 751))))
          ++ told_fault (begins_at (drop 750 (beginnings 1 (marks 750))));
      paper = 9 ∷ 141003 ∷ 0 ∷ 0 ∷ [];
    }
    -- 9: a damaged start mark begins no 751st unit
    ∷ record {
      rule = told_fault (begins_at (drop 750 (beginnings 4 one_broken)))
          ++ told_fault (begins_at (drop 750 (beginnings 3 one_broken)));
      paper = 0 ∷ 0 ∷ 9 ∷ 141003 ∷ [];
    }
    ∷ []

-- the theorem: the rules give what the paper says
pub sampled : map (λ (c : Case). c.rule) samples ≡ map (λ (c : Case). c.paper) samples
unfolding one_broken words run marks one_frame show_record samples open_answer unit_place scene_place allowed_header
    allowed_unit allowed_units allowed_scene allowed_scenes allowed_rows allowed reading_fault row_fault is_edition
    unit_fault scene_fault word32 word64 network16 bytes_of total greatest_of least_of count only table parts
    end_to_end good_size good_time good_pid opening_fault level_up_to level side area columns lines seconds
    microseconds stored_length frame_time body frame_size frames_up_to rest_up_to frames rest behind_header ip_length
    udp_length carries skipped packets_from packets_in packets_of packets shown whole starts_cell damage_mark
    condition identifier is_wanted start_mark counter wanted_of bad_of gap_loss set_apart loss_between heeds_splices
    knows_damage splice_mark arrivals_after arrivals before_units groups cells_of least_time unit_of units_of
    beginnings whole_frames unfinished all_frames whole_wanted shown_wanted units frame_count skipped_count bad_count
    showing too_long wrong_magic wrong_link wrong_frame_header wrong_frame too_many_units format_fault capture_fault
    capture_inside picture_size picture_count pictures luma_fault rows band block_sum pixel_in pixel pixel_line pixels
    third tile_at bin in_tile_from in_tile in_bin histogram histograms bins_apart per_million tile_difference
    tile_differences insert sorted fifth difference least_of_six cut_score cut_scores starts_scene is_start
    starts_from starts longest_from scene_of scenes_at scenes_of same squares spread root_from root nearest
    change_from rounds_to_nearest change repeats_after changes_after repeats changes ic_of ip_of value_of index_of
    index_bits record_length scene_offset header_bytes unit_bytes scene_bytes record_bytes reduced scenes_in scenes
    unrepeated index_from index header sealed sealed_length capture_unfinished no_packet luma_unfinished no_picture
    no_room seal_fault capture_answer luma_answer seal_answer over sealed_buffer expected add mul div of_int to_bits
sampled = refl
