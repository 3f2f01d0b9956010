-- Capture side: which frames carry, and their packets (document 01: cells).
use Rattle.std.specs.Prelude.{ℕ, zero, suc, ◌+◌, ◌-◌, ◌*◌, ◌/◌, ◌%◌, List, [], ◌∷◌, ◌++◌, Bool, true, false, not}
use Rattle.std.specs.Prelude.{◌&&◌, length, take, drop, leb, ltb, eqb}
use Rattle.rules.specs.declared.Opening.{Opening}
use Rattle.rules.specs.declared.Condition.{Condition}
use Rattle.rules.specs.declared.Condition.TheVariants.{Good, Damaged, Bad}
use Rattle.rules.specs.Bytes.{pick, byte, network16, count, only}
use Rattle.rules.specs.Frames.{stored_length, frame_time, body}

-- T and U of a frame
unfoldable pub ip_length : List ℕ → ℕ
ip_length f = network16 (body f) 16

unfoldable pub udp_length : List ℕ → ℕ
udp_length f = network16 (body f) 38

-- ---- when a frame carries: each condition by itself

-- long enough for the three headers: L at least 42
abbrev pub holds_headers : List ℕ → Bool
holds_headers f = leb 42 (stored_length f)

-- an IPv4 packet: bytes 12, 13 are 0x08 0x00
abbrev pub is_ipv4 : List ℕ → Bool
is_ipv4 f = eqb (byte (body f) 12) 0x08 && eqb (byte (body f) 13) 0x00

-- IP version 4 with a header of 20 bytes: byte 14 is 0x45
abbrev pub is_plain : List ℕ → Bool
is_plain f = eqb (byte (body f) 14) 0x45

-- no fragment: the low 14 bits of bytes 20, 21 are zero (2^14 is 16384)
abbrev pub is_unfragmented : List ℕ → Bool
is_unfragmented f = eqb (network16 (body f) 20 % 16384) 0

-- UDP: byte 23 is 17
abbrev pub is_udp : List ℕ → Bool
is_udp f = eqb (byte (body f) 23) 17

-- T = U + 20
abbrev pub lengths_agree : List ℕ → Bool
lengths_agree f = eqb (ip_length f) (udp_length f + 20)

-- the capture kept the whole IP packet: L at least 14 + T
abbrev pub is_stored_whole : List ℕ → Bool
is_stored_whole f = leb (14 + ip_length f) (stored_length f)

-- U − 8 is a positive multiple of 188
abbrev pub holds_packets : List ℕ → Bool
holds_packets f = ltb 8 (udp_length f) && eqb ((udp_length f - 8) % 188) 0

-- a frame carries
unfoldable pub carries : List ℕ → Bool
carries f =
    holds_headers f
    && is_ipv4 f
    && is_plain f
    && is_unfragmented f
    && is_udp f
    && lengths_agree f
    && is_stored_whole f
    && holds_packets f

-- how many frames don't carry: passed over
unfoldable pub skipped : List (List ℕ) → ℕ
skipped fs = count (λ f. not (carries f)) fs

-- a packet: its frame's time, the offset of its first byte in the capture, its bytes (of a frame that is cut off,
-- those that are there)
pub record Packet : Type 0 where
  pub time : ℕ
  pub place : ℕ
  pub bytes : List ℕ

-- n packets, one behind the other
unfoldable pub packets_from : ℕ → ℕ → ℕ → List ℕ → List Packet
packets_from zero time place s = []
packets_from (suc n) time place s =
    record { time = time; place = place; bytes = take 188 s } ∷ packets_from n time (place + 188) (drop 188 s)

-- the packets of a frame that carries, from its byte 42 on
unfoldable pub packets_in : ℕ → List ℕ → List Packet
packets_in place f = packets_from ((udp_length f - 8) / 188) (frame_time f) (place + 58) (drop 42 (body f))

-- the packets of a frame that starts at the offset `place`
unfoldable pub packets_of : ℕ → List ℕ → List Packet
packets_of place f = pick (carries f) (packets_in place f) []

-- the packets of frames that follow each other from the offset `place` on
unfoldable pub packets : ℕ → List (List ℕ) → List Packet
packets place [] = []
packets place (f ∷ fs) = packets_of place f ++ packets (place + length f) fs

-- the packets whose byte 3 is there, which show what they are: refusal 9 goes by these
unfoldable pub shown : List Packet → List Packet
shown ps = only (λ p. leb 4 (length p.bytes)) ps

-- the packets of which all 188 bytes are there: units and counts go by these
unfoldable pub whole : List Packet → List Packet
whole ps = only (λ p. leb 188 (length p.bytes)) ps

-- ---- what a packet's first bytes say

-- it starts with 0x47
unfoldable pub starts_cell : List ℕ → Bool
starts_cell b = eqb (byte b 0) 0x47

-- damage mark (document 02, R-6): 0x80 in byte 1, so that its low 8 bits are 128 or more
unfoldable pub damage_mark : List ℕ → Bool
damage_mark b = leb 128 (byte b 1 % 256)

-- good, damaged or bad (document 02, R-6), for all who read packets: bad unless it starts with 0x47, whatever byte 1
-- says (document 01: bad cell)
unfoldable pub condition : List ℕ → Condition
condition b = pick (starts_cell b) (pick (damage_mark b) Damaged Good) Bad

abbrev pub is_good : Condition → Bool
is_good Good = true
is_good Damaged = false
is_good Bad = false

abbrev pub is_bad : Condition → Bool
is_bad Good = false
is_bad Damaged = false
is_bad Bad = true

abbrev pub is_damaged : Condition → Bool
is_damaged Good = false
is_damaged Damaged = true
is_damaged Bad = false

-- identifier: the low 5 bits of byte 1 times 256, plus byte 2
unfoldable pub identifier : List ℕ → ℕ
identifier b = byte b 1 % 32 * 256 + byte b 2

-- a packet of PID: not a bad one, and its identifier is PID. Any other that is not bad is ignored
unfoldable pub is_wanted : Opening → List ℕ → Bool
is_wanted o b = not (is_bad (condition b)) && eqb (identifier b) o.pid

-- start mark: 0x40 in byte 1, so that its low 7 bits are 64 or more
unfoldable pub start_mark : List ℕ → Bool
start_mark b = leb 64 (byte b 1 % 128)

-- counter: the low 4 bits of byte 3
unfoldable pub counter : List ℕ → ℕ
counter b = byte b 3 % 16

-- splice mark (document 02, R-2: the discontinuity indicator): 0x20 in byte 3, byte 4 above 0, and 0x80 in byte 5
unfoldable pub splice_mark : List ℕ → Bool
splice_mark b = leb 32 (byte b 3 % 64) && (not (eqb (byte b 4) 0) && leb 128 (byte b 5 % 256))

-- the packets of PID
unfoldable pub wanted_of : Opening → List Packet → List Packet
wanted_of o ps = only (λ p. is_wanted o p.bytes) ps

-- how many packets are bad
unfoldable pub bad_of : List Packet → ℕ
bad_of ps = count (λ p. is_bad (condition p.bytes)) ps

-- how many start with 0x47 and have another identifier
unfoldable pub other_of : Opening → List Packet → ℕ
other_of o ps = count (λ p. not (is_bad (condition p.bytes)) && not (eqb (identifier p.bytes) o.pid)) ps
