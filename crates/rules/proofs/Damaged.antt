-- Document 02, R-6: worked cells, units and records with damage, as a table with one theorem over its entries.
use Prim.Native.Nat.{ℕ, ◌+◌, ◌/◌, ◌%◌}
use mathlib.Core.Path.{◌≡◌, refl}
use mathlib.Core.List.{List, [], ◌∷◌, ◌++◌, map}
use lib.ListN.{replicate, set}
use Rattle.rules.specs.declared.Condition.{Condition}
use Rattle.rules.specs.declared.Condition.TheVariants.{Good, Damaged, Bad}
use Rattle.rules.specs.declared.Opening.{Opening}
use Rattle.rules.specs.Bytes.{word32, word64, network16, bytes_of, total, greatest_of, least_of, count, only, table}
use Rattle.rules.specs.Bytes.{end_to_end}
use Rattle.rules.specs.Editions.{is_edition, heeds_splices, knows_damage}
use Rattle.rules.specs.Opening.{good_size, good_time, good_pid, opening_fault}
use Rattle.rules.specs.Frames.{seconds, microseconds, stored_length, frame_time, body, frame_size, frames_up_to}
use Rattle.rules.specs.Frames.{rest_up_to, frames, rest, behind_header}
use Rattle.rules.specs.Packets.{ip_length, udp_length, carries, packets_from, packets_in, packets_of, packets}
use Rattle.rules.specs.Packets.{shown, whole}
use Rattle.rules.specs.Packets.{starts_cell, damage_mark, condition, identifier, is_wanted, start_mark, counter}
use Rattle.rules.specs.Packets.{splice_mark, wanted_of, bad_of}
use Rattle.rules.specs.Units.{gap_loss, set_apart, loss_between, arrivals_after, arrivals, before_units, groups}
use Rattle.rules.specs.Units.{cells_of, least_time, unit_of, units_of, beginnings}
use Rattle.rules.specs.Capture.{whole_frames, unfinished, all_frames, whole_wanted, shown_wanted, units, bad_count}
use Rattle.rules.specs.Capture.{too_many_units}
use Rattle.rules.specs.Record.{record_length, scene_offset, unit_bytes}
use Rattle.rules.specs.Reading.{allowed_header, allowed_unit, allowed_units, allowed_scene, allowed_scenes}
use Rattle.rules.specs.Reading.{allowed_rows, allowed, reading_fault}
use Rattle.rules.specs.Seal.{no_packet}
use Rattle.rules.proofs.Worked.{Case}
use Rattle.rules.proofs.Samples.{good_header, frame_with, packet_of, opened_by, told_fault, words, show_record}

-- what a cell is, as a number: 0 good, 1 damaged, 2 bad
abbrev told : Condition → ℕ
told Good = 0
told Damaged = 1
told Bad = 2

-- a damaged packet of this identifier: with its start mark (0x40) or without (0), and its counter
abbrev broken_of : ℕ → ℕ → ℕ → List ℕ
broken_of pid mark n = packet_of pid (0x80 + mark) n

-- one with a discontinuity indicator too
abbrev broken_splice : ℕ → ℕ → List ℕ
broken_splice pid n = 0x47 ∷ (0x80 + pid / 256) ∷ (pid % 256) ∷ (0x30 + n) ∷ 7 ∷ 0x80 ∷ replicate 182 0xFF

-- four frames, at 5, 3, 7 and 9 seconds. Damaged: a start before any unit; a start in a frame of its own; one of
-- another identifier; one in the last frame. Bad: one that has the damage mark, too
rooftop : List ℕ
rooftop =
    good_header
    ++ frame_with 5 0 2 (broken_of 256 0x40 9 ++ packet_of 256 0 3)
    ++ frame_with 3 0 1 (broken_of 256 0x40 9)
    ++ frame_with 7 0 3 (packet_of 256 0 5 ++ broken_of 257 0x40 9 ++ set (broken_of 256 0 9) 0 0x46)
    ++ frame_with 9 0 2 (broken_of 256 0 6 ++ packet_of 256 0x40 6)

abbrev by : ℕ → Opening
by e = opened_by e 30 30 40000 256

-- its unit rows and its bad cells, under an edition
rows_by : ℕ → List ℕ
rows_by e = end_to_end (map unit_bytes (units (by e) rooftop)) ++ bad_count (by e) rooftop ∷ []

-- what is lost and what is damaged, of counters 3, 9 and 11, the second in a damaged packet with an indicator
lost_by : ℕ → List ℕ
lost_by e = end_to_end (map (λ u. u.lost ∷ u.damaged ∷ [])
    (units (by e) (good_header
    ++ frame_with 0 0 3 (packet_of 256 0x40 3 ++ broken_splice 256 9 ++ packet_of 256 0 11))))

-- a capture with damaged packets of PID alone: its units and bad cells
only_broken : ℕ → List ℕ
only_broken e =
    let capture : List ℕ = good_header ++ frame_with 0 0 2 (broken_of 256 0x40 3 ++ broken_of 256 0 4) in
    told_fault (no_packet (units (by e) capture)) ++ bad_count (by e) capture ∷ []

-- an edition's record whose byte at this place is 1
read_by : ℕ → ℕ → List ℕ
read_by e place = told_fault (reading_fault (set (set show_record 0 e) place 1))

pub broken : List Case
broken =
    -- 0x47 and 0x80 in byte 1 is damaged, whatever else byte 1 has; without 0x47 a cell is bad whatever byte 1 says
    record {
      rule =
          told (condition (packet_of 256 0x40 3)) ∷ told (condition (broken_of 256 0x40 3)) ∷ told
          (condition (broken_of 8191 0 3))
          ∷ told (condition (set (packet_of 256 0 3) 0 0x46)) ∷ told (condition (set (broken_of 256 0 3) 0 0xC7)) ∷ [];
      paper = 0 ∷ 1 ∷ 1 ∷ 2 ∷ 2 ∷ [];
    }
    -- edition 4: two units; the damaged ones count in word 28 alone, and the one before the first unit as bad
    ∷ record {
      rule = rows_by 4;
      paper = words (5000000 ∷ 0 ∷ 7000000 ∷ 0 ∷ 368 ∷ 2 ∷ 1 ∷ 2 ∷ [])
          ++ words (9000000 ∷ 0 ∷ 9000000 ∷ 0 ∷ 184 ∷ 1 ∷ 0 ∷ 0 ∷ []) ++ 2 ∷ [];
    }
    -- edition 3, as 2: their headers are trusted, and word 28 is zero
    ∷ record {
      rule = rows_by 3;
      paper =
          words (5000000 ∷ 0 ∷ 5000000 ∷ 0 ∷ 368 ∷ 2 ∷ 9 ∷ 0 ∷ [])
          ++ words (3000000 ∷ 0 ∷ 9000000 ∷ 0 ∷ 552 ∷ 3 ∷ 16 ∷ 0 ∷ [])
          ++ words (9000000 ∷ 0 ∷ 9000000 ∷ 0 ∷ 184 ∷ 1 ∷ 0 ∷ 0 ∷ []) ++ 1 ∷ [];
    }
    -- a damaged packet's indicator is not heeded, and the next gap, of 8, is measured from the counter before it
    ∷ record { rule = end_to_end (table 4 1 lost_by); paper = 6 ∷ 0 ∷ 1 ∷ 0 ∷ 1 ∷ 0 ∷ 7 ∷ 1 ∷ [] }
    -- 12: damaged packets alone begin no unit, and are bad cells
    ∷ record { rule = only_broken 4 ++ only_broken 3; paper = 12 ∷ 0 ∷ 2 ∷ 0 ∷ 0 ∷ 0 ∷ [] }
    -- 18: word 28 of a unit row passes in edition 4 and not in 3; a scene row's passes in none
    ∷ record {
      rule = read_by 4 92 ++ read_by 4 95 ++ read_by 3 92 ++ read_by 4 124;
      paper = 0 ∷ 0 ∷ 0 ∷ 0 ∷ 18 ∷ 0 ∷ 18 ∷ 0 ∷ [];
    }
    ∷ []

-- the theorem: every entry's rule gives what document 02 says
pub set_apart_lem : map (λ (c : Case). c.rule) broken ≡ map (λ (c : Case). c.paper) broken
unfolding broken rooftop rows_by lost_by only_broken read_by words show_record word32 word64 network16 bytes_of total
    greatest_of least_of count only table end_to_end is_edition heeds_splices knows_damage good_size good_time
    good_pid opening_fault seconds microseconds stored_length frame_time body frame_size frames_up_to rest_up_to
    frames rest behind_header ip_length udp_length carries packets_from packets_in packets_of packets shown whole
    starts_cell damage_mark condition identifier is_wanted start_mark counter splice_mark wanted_of bad_of gap_loss
    set_apart loss_between arrivals_after arrivals before_units groups cells_of least_time unit_of units_of beginnings
    whole_frames unfinished all_frames whole_wanted shown_wanted units bad_count too_many_units record_length
    scene_offset unit_bytes allowed_header allowed_unit allowed_units allowed_scene allowed_scenes allowed_rows
    allowed reading_fault no_packet
set_apart_lem = refl
