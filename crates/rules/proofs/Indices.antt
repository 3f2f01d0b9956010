-- Document 02, R-7: indices asked for while feeding, as a table with one theorem over its entries.
use Prim.Native.Nat.{ℕ}
use mathlib.Core.Path.{◌≡◌, refl}
use mathlib.Core.List.{List, [], ◌∷◌, ◌++◌, map}
use lib.ListN.{take}
use lib.Ieee.{add, mul, div, of_int, to_bits}
use Rattle.rules.specs.Bytes.{word32, network16, bytes_of, total, greatest_of, least_of, count, only, table, parts}
use Rattle.rules.specs.Bytes.{end_to_end}
use Rattle.rules.specs.Editions.{is_edition, heeds_splices, knows_damage}
use Rattle.rules.specs.Opening.{good_size, good_time, good_pid, opening_fault, open_answer, level_up_to, level, side}
use Rattle.rules.specs.Opening.{area, columns, lines}
use Rattle.rules.specs.Frames.{seconds, microseconds, stored_length, frame_time, body, frame_size, frames_up_to}
use Rattle.rules.specs.Frames.{rest_up_to, frames, rest, behind_header}
use Rattle.rules.specs.Packets.{ip_length, udp_length, carries, packets_from, packets_in, packets_of, packets, shown}
use Rattle.rules.specs.Packets.{whole, starts_cell, damage_mark, condition, identifier, is_wanted, start_mark}
use Rattle.rules.specs.Packets.{counter, splice_mark, wanted_of}
use Rattle.rules.specs.Units.{gap_loss, set_apart, loss_between, arrivals_after, arrivals, groups, cells_of}
use Rattle.rules.specs.Units.{least_time}
use Rattle.rules.specs.Units.{unit_of, units_of}
use Rattle.rules.specs.Units.{beginnings}
use Rattle.rules.specs.Capture.{whole_frames, unfinished, all_frames, whole_wanted, shown_wanted, units, showing}
use Rattle.rules.specs.Capture.{too_long, wrong_magic, wrong_link, wrong_frame_header, wrong_frame, too_many_units}
use Rattle.rules.specs.Capture.{format_fault, capture_fault}
use Rattle.rules.specs.Pictures.{picture_size, picture_count, pictures, luma_fault, rows, band, block_sum, pixel_in}
use Rattle.rules.specs.Pictures.{pixel_line, pixels}
use Rattle.rules.specs.Changes.{same, repeats_after, repeats}
use Rattle.rules.specs.Index.{ic_of, ip_of, value_of, index_of}
use Rattle.rules.specs.Seal.{reduced, unrepeated, index_from, index, no_packet, no_picture, capture_answer}
use Rattle.rules.specs.Seal.{luma_answer}
use Rattle.rules.specs.WhileFeeding.{index_fault, index_answer}
use Rattle.rules.specs.Calls.{feed_capture, feed_luma, ask, index as asked, expected}
use Rattle.rules.proofs.Worked.{Case}
use Rattle.rules.proofs.Samples.{good_header, frame_with, packet_of, opened, small, run, one_frame, picture}

-- a record of two cells of PID with one lost between them, of which the second lacks its byte 187
cut : List ℕ
cut = take 457 (good_header ++ frame_with 1 0 2 (packet_of 256 0x40 0 ++ packet_of 256 0 2))

pub indices : List Case
indices =
    -- one whole cell of an unfinished record, two alike pictures and a byte of a third: Ic 2, Ip 1, index 3. Then the
    -- second cell's last byte comes, and with it its loss: Ip 2/3. Then the third picture, another one: Ic 8/3
    record {
      rule =
          run small
          (feed_capture cut ∷ feed_luma (picture 16 ++ picture 16 ++ 90 ∷ []) ∷ ask asked
          ∷ feed_capture (0xFF ∷ []) ∷ ask asked
          ∷ feed_luma (take 449 (picture 90)) ∷ ask asked ∷ []);
      paper =
          0 ∷ 0 ∷ 0 ∷ 457 ∷ 0 ∷ 901 ∷ 0 ∷ 0x4000000000000000 ∷ 0x3FF0000000000000 ∷ 0x4008000000000000
          ∷ 0 ∷ 1 ∷ 0 ∷ 0x4000000000000000 ∷ 0x3FE5555555555555 ∷ 0x4002AAAAAAAAAAAA
          ∷ 0 ∷ 449 ∷ 0 ∷ 0x4005555555555555 ∷ 0x3FE5555555555555 ∷ 0x400638E38E38E38E ∷ [];
    }
    -- 12 before 14, of nothing at all and of a cell that is not whole; then 14, with a picture that is not whole; 14
    -- goes once it is
    ∷ record {
      rule =
          run small
          (ask asked ∷ feed_capture (take 269 one_frame) ∷ ask asked
          ∷ feed_capture (0xFF ∷ []) ∷ feed_luma (take 449 (picture 7)) ∷ ask asked
          ∷ feed_luma (7 ∷ []) ∷ ask asked ∷ []);
      paper =
          0 ∷ 0 ∷ 12 ∷ 0 ∷ 0 ∷ 269 ∷ 12 ∷ 0
          ∷ 0 ∷ 1 ∷ 0 ∷ 449 ∷ 14 ∷ 0
          ∷ 0 ∷ 1 ∷ 0 ∷ 0x4010000000000000 ∷ 0x3FF0000000000000 ∷ 0x4014000000000000 ∷ [];
    }
    -- 12 with a picture there
    ∷ record { rule = run small (feed_luma (picture 7) ∷ ask asked ∷ []); paper = 0 ∷ 0 ∷ 0 ∷ 450 ∷ 12 ∷ 0 ∷ [] }
    -- the opening's number, and 5 before 12, with their places
    ∷ record { rule = run (opened 640 29 9999 8192) (ask asked ∷ []); paper = 1 ∷ 0 ∷ 1 ∷ 0 ∷ [] }
    ∷ record {
      rule = run small (feed_capture (0 ∷ 0 ∷ 0 ∷ 0 ∷ []) ∷ ask asked ∷ []);
      paper = 0 ∷ 0 ∷ 5 ∷ 3 ∷ 5 ∷ 3 ∷ [];
    }
    ∷ []

-- the theorem: every entry's rule gives what document 02 says
pub answered : map (λ (c : Case). c.rule) indices ≡ map (λ (c : Case). c.paper) indices
unfolding cut run one_frame picture indices open_answer word32 network16 bytes_of total greatest_of least_of count
    only table parts end_to_end is_edition heeds_splices knows_damage good_size good_time good_pid opening_fault
    level_up_to level side area columns lines seconds microseconds stored_length frame_time body frame_size
    frames_up_to rest_up_to frames rest behind_header ip_length udp_length carries packets_from packets_in packets_of
    packets shown whole starts_cell damage_mark condition identifier is_wanted start_mark counter splice_mark
    wanted_of gap_loss set_apart loss_between arrivals_after arrivals groups cells_of least_time unit_of units_of
    beginnings whole_frames unfinished all_frames whole_wanted shown_wanted units showing too_long wrong_magic
    wrong_link wrong_frame_header wrong_frame too_many_units format_fault capture_fault picture_size picture_count
    pictures luma_fault rows band block_sum pixel_in pixel_line pixels same repeats_after repeats ic_of ip_of value_of
    index_of reduced unrepeated index_from index no_packet no_picture capture_answer luma_answer index_fault
    index_answer expected add mul div of_int to_bits
answered = refl
