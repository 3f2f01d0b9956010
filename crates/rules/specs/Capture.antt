-- Capture side: what the joined bytes come to, and refusals 4 to 9.
use Rattle.std.specs.Prelude.{ℕ, ◌+◌, List, [], ◌∷◌, ◌++◌, Bool, true, not, ◌&&◌, ◌||◌, length, drop, leb, ltb, eqb}
use Rattle.rules.specs.declared.Opening.{Opening}
use Rattle.rules.specs.declared.UnitRow.{UnitRow}
use Rattle.rules.specs.Bytes.{pick, byte, word32}
use Rattle.rules.specs.Refusals.{Fault, none, fault}
use Rattle.rules.specs.Editions.{knows_damage}
use Rattle.rules.specs.Frames.{microseconds, stored_length, frames, rest, behind_header}
use Rattle.rules.specs.Packets.{Packet, packets, shown, whole, wanted_of, bad_of, skipped}
use Rattle.rules.specs.Units.{Arrival, before_units, units_of, beginnings}

-- the whole frames, and the bytes of the frame that is not whole yet
unfoldable pub whole_frames : List ℕ → List (List ℕ)
whole_frames capture = frames (behind_header capture)

unfoldable pub unfinished : List ℕ → List ℕ
unfinished capture = rest (behind_header capture)

-- both
unfoldable pub all_frames : List ℕ → List (List ℕ)
all_frames capture = whole_frames capture ++ unfinished capture ∷ []

-- the packets of PID: those that are whole, which units are made of, and those that show what they are, by which
-- refusal 9 stands already
unfoldable pub whole_wanted : Opening → List ℕ → List Packet
whole_wanted o capture = wanted_of o (whole (packets 24 (all_frames capture)))

unfoldable pub shown_wanted : Opening → List ℕ → List Packet
shown_wanted o capture = wanted_of o (shown (packets 24 (all_frames capture)))

-- ---- the figures

unfoldable pub units : Opening → List ℕ → List UnitRow
units o capture = units_of o.edition (whole_wanted o capture)

-- word 44 of the record
unfoldable pub frame_count : List ℕ → ℕ
frame_count capture = length (whole_frames capture)

-- word 48
unfoldable pub skipped_count : List ℕ → ℕ
skipped_count capture = skipped (whole_frames capture)

-- word 52: bad cells, and where damage is known (document 02, R-6) the damaged ones of PID before the first unit
unfoldable pub bad_count : Opening → List ℕ → ℕ
bad_count o capture = bad_of (whole (packets 24 (all_frames capture))) + before_units (knows_damage o.edition)
    (whole_wanted o capture)

-- ---- refusals 4 to 9. Each stands at the last byte of the field that shows it, and is shown once that byte is there

-- a refusal at this place, if the string reaches it and the test passes
unfoldable pub showing : ℕ → ℕ → ℕ → Bool → Fault
showing size number place wrong = pick (ltb place size && wrong) (fault number place) none

-- the one at the lower place; at one place the first
abbrev pub earlier : Fault → Fault → Fault
earlier none f = f
earlier (fault k p) none = fault k p
earlier (fault k p) (fault l q) = pick (leb p q) (fault k p) (fault l q)

-- 4: a byte past 268,435,456
unfoldable pub too_long : List ℕ → Fault
too_long capture = showing (length capture) 4 268435456 true

-- the first four bytes are D4 C3 B2 A1
abbrev pub is_magic : List ℕ → Bool
is_magic s = eqb (byte s 0) 0xD4 && eqb (byte s 1) 0xC3 && eqb (byte s 2) 0xB2 && eqb (byte s 3) 0xA1

-- 5: the first four bytes are not these
unfoldable pub wrong_magic : List ℕ → Fault
wrong_magic capture = showing (length capture) 5 3 (not (is_magic capture))

-- 6: the link type is not 1
unfoldable pub wrong_link : List ℕ → Fault
wrong_link capture = showing (length capture) 6 23 (not (eqb (word32 capture 20) 1))

-- 7, 8: microseconds above 999,999, L above 65,535; of the frame f that begins at the offset `place`
-- of a capture of `size` bytes
unfoldable pub wrong_frame_header : ℕ → ℕ → List ℕ → Fault
wrong_frame_header size place f =
    earlier (showing size 7 (place + 7) (ltb 999999 (microseconds f)))
    (showing size 8 (place + 11) (ltb 65535 (stored_length f)))

unfoldable pub wrong_frame : ℕ → ℕ → List (List ℕ) → Fault
wrong_frame size place [] = none
wrong_frame size place (f ∷ fs) = earlier (wrong_frame_header size place f) (wrong_frame size (place + length f) fs)

-- 9: a 751st unit begins
abbrev pub begins_at : List Arrival → Fault
begins_at [] = none
begins_at (a ∷ more) = fault 9 (a.place + 3)

unfoldable pub too_many_units : Opening → List ℕ → Fault
too_many_units o capture = begins_at (drop 750 (beginnings o.edition (shown_wanted o capture)))

-- what the joined bytes show first of 4 to 8, to one who knows no opening
unfoldable pub format_fault : List ℕ → Fault
format_fault capture =
    earlier (too_long capture)
    (earlier (wrong_magic capture)
    (earlier (wrong_link capture) (wrong_frame (length capture) 24 (all_frames capture))))

-- what the capture's joined bytes show first: one of these, or 9
unfoldable pub capture_fault : Opening → List ℕ → Fault
capture_fault o capture = earlier (format_fault capture) (too_many_units o capture)

-- the capture ends inside its header or a frame
unfoldable pub capture_inside : List ℕ → Bool
capture_inside capture = ltb (length capture) 24 || ltb 0 (length (unfinished capture))
