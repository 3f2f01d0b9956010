-- A capture that goes on within a frame: its frames, and its packets of which enough bytes are there.
use Prim.Native.Nat.{ℕ, zero, suc, ◌+◌, ◌-◌, ◌*◌, ◌/◌, ◌%◌, ◌≤◌, ◌<◌}
use native.Mathlib.Omega.{arith}
use native.Mathlib.Decide.{dec_le}
use mathlib.Core.Path.{◌≡◌, refl, sym, ap, ◌∙◌}
use mathlib.Core.List.{List, [], ◌∷◌, ◌++◌, append-nil}
use mathlib.Core.Bool.{Bool, true, false, ◌&&◌}
use lib.ListN.{length, take, drop, length-append, length-take, length-drop, take-append-drop, drop_of_length-le}
use lib.ListN.{get_or-append}
use lib.Seq.{length-take-le, take-append-le, drop-append-le, drop-drop, take_all}
use lib.Dec.{leb, ltb, eqb}
use borrow.Author.Tests.{le-leb, lt-leb, leb-true, ltb-true, eqb-true}
use Rattle.rules.specs.Bytes.{pick, byte, word32, network16, only, end_to_end, All, and, empty}
use Rattle.rules.specs.Frames.{seconds, microseconds, stored_length, frame_time, body, frame_size, frames, rest}
use Rattle.rules.specs.Frames.{behind_header}
use Rattle.rules.specs.Packets.{Packet, ip_length, udp_length, holds_headers, is_ipv4, is_plain, is_unfragmented}
use Rattle.rules.specs.Packets.{is_udp, lengths_agree, is_stored_whole, holds_packets, carries, packets_from}
use Rattle.rules.specs.Packets.{packets_in, packets_of, packets}
use Rattle.rules.specs.Capture.{whole_frames, unfinished, all_frames}
use Rattle.capture_laws.specs.UnderWay.{count_of}
use Rattle.rules.proofs.Laws.Lists.{both, only-append}
use Rattle.capture_laws.proofs.Frames.{size-least, size-append, frames-none, rest-none, frames-one, rest-one}
use Rattle.capture_laws.proofs.Frames.{frames-append, rest-append, frames-all, by_frames}
use Rattle.capture_laws.proofs.Capture.{packets-append}

-- ---- the frames

-- the offset at which the frame starts that is not whole yet
unfoldable pub base : List ℕ → ℕ
base s = 24 + length (end_to_end (whole_frames s))

pub base_sum : (s : List ℕ) → 24 ≤ length s → base s + length (unfinished s) ≡ length s
unfolding base whole_frames unfinished behind_header
base_sum s h =
    let e = ap length (frames-all (drop 24 s)) in
    let l = length-append (end_to_end (frames (drop 24 s))) (rest (drop 24 s)) in
    let d = length-drop 24 s in
    omega arith

pub unfinished-short : (s : List ℕ) → length (unfinished s) < frame_size (unfinished s)
unfolding unfinished
unfinished-short s =
    by_frames (λ (x : List ℕ). length (rest x) < frame_size (rest x)) (λ x h. rw (rest-none x h) h)
    (λ x h ih. rw (rest-one x h) ih) (behind_header s)

frames-exact : (s : List ℕ) → length s ≡ frame_size s → frames s ≡ s ∷ []
frames-exact s h =
    frames-one s (omega arith)
    ∙ rw (
      take_all (frame_size s) s (omega arith),
      drop_of_length-le s {i = frame_size s} (omega arith),
      frames-none [] (omega (arith, size-least [])),
    )

rest-exact : (s : List ℕ) → length s ≡ frame_size s → rest s ≡ []
rest-exact s h =
    rest-one s (omega arith)
    ∙ rw (drop_of_length-le s {i = frame_size s} (omega arith)) (rest-none [] (omega (arith, size-least [])))

module _ (s t : List ℕ) (h : 24 ≤ length s) where
  behind_more : behind_header (s ++ t) ≡ behind_header s ++ t
  unfolding behind_header
  behind_more = drop-append-le 24 s t h

  -- the frame is not whole yet
  pub whole_part : length (unfinished s ++ t) < frame_size (unfinished s ++ t) →
      whole_frames (s ++ t) ≡ whole_frames s
  unfolding whole_frames unfinished
  whole_part k =
      rw (behind_more, frames-append (behind_header s) t, frames-none (rest (behind_header s) ++ t) k)
      (append-nil (frames (behind_header s)))

  pub unfinished-part : length (unfinished s ++ t) < frame_size (unfinished s ++ t) →
      unfinished (s ++ t) ≡ unfinished s ++ t
  unfolding unfinished
  unfinished-part k = rw (behind_more, rest-append (behind_header s) t) (rest-none (rest (behind_header s) ++ t) k)

  -- the frame is whole now
  pub whole-full : length (unfinished s ++ t) ≡ frame_size (unfinished s ++ t) →
      whole_frames (s ++ t) ≡ whole_frames s ++ (unfinished s ++ t) ∷ []
  unfolding whole_frames unfinished
  whole-full k = rw (behind_more, frames-append (behind_header s) t, frames-exact (rest (behind_header s) ++ t) k)

  pub unfinished-full : length (unfinished s ++ t) ≡ frame_size (unfinished s ++ t) → unfinished (s ++ t) ≡ []
  unfolding unfinished
  unfinished-full k = rw (behind_more, rest-append (behind_header s) t) (rest-exact (rest (behind_header s) ++ t) k)

-- a header alone
pub header-alone : (s : List ℕ) → length s ≤ 24 → (whole_frames s ≡ []) × (unfinished s ≡ [])
unfolding whole_frames unfinished behind_header
header-alone s h =
    let e = drop_of_length-le s {i = 24} h in
    (rw e (frames-none [] (omega (arith, size-least []))), rw e (rest-none [] (omega (arith, size-least []))))

-- ---- a frame's packets

pub of-from : (place : ℕ) (f : List ℕ) →
    packets_of place f ≡ packets_from (count_of f) (frame_time f) (place + 58) (drop 58 f)
unfolding packets_of packets_in count_of body packets_from
of-from place f = go (carries f) (drop-drop 42 16 f)
  where
    go : (b : Bool) → drop 42 (drop 16 f) ≡ drop 58 f →
        pick b (packets_from ((udp_length f - 8) / 188) (frame_time f) (place + 58) (drop 42 (drop 16 f))) []
        ≡ packets_from (pick b ((udp_length f - 8) / 188) 0) (frame_time f) (place + 58) (drop 58 f)
    go true e = rw e
    go false e = refl

-- the fields of a frame whose first 58 bytes are there stay
module _ (x t : List ℕ) (h : 58 ≤ length x) where
  body_more : body (x ++ t) ≡ body x ++ t
  unfolding body
  body_more = drop-append-le 16 x t (omega arith)

  in_body : (i : ℕ) → i < 42 → byte (body x ++ t) i ≡ byte (body x) i
  unfolding body
  in_body i g = get_or-append (drop 16 x) t 0 i (simp length-drop (omega arith))

  pub udp-more : udp_length (x ++ t) ≡ udp_length x
  unfolding udp_length network16
  udp-more = rw (body_more, in_body 38 (omega arith), in_body 39 (omega arith))

  ip-more : ip_length (x ++ t) ≡ ip_length x
  unfolding ip_length network16
  ip-more = rw (body_more, in_body 16 (omega arith), in_body 17 (omega arith))

  stored_more : stored_length (x ++ t) ≡ stored_length x
  unfolding stored_length word32
  stored_more =
      rw (
        get_or-append x t 0 8 (omega arith),
        get_or-append x t 0 9 (omega arith),
        get_or-append x t 0 10 (omega arith),
        get_or-append x t 0 11 (omega arith),
      )

  pub time-more : frame_time (x ++ t) ≡ frame_time x
  unfolding frame_time seconds microseconds word32
  time-more =
      rw (
        get_or-append x t 0 0 (omega arith),
        get_or-append x t 0 1 (omega arith),
        get_or-append x t 0 2 (omega arith),
        get_or-append x t 0 3 (omega arith),
        get_or-append x t 0 4 (omega arith),
        get_or-append x t 0 5 (omega arith),
        get_or-append x t 0 6 (omega arith),
        get_or-append x t 0 7 (omega arith),
      )

  pub carries-more : carries (x ++ t) ≡ carries x
  unfolding carries network16
  carries-more =
      rw (
        stored_more,
        ip-more,
        udp-more,
        body_more,
        in_body 12 (omega arith),
        in_body 13 (omega arith),
        in_body 14 (omega arith),
        in_body 20 (omega arith),
        in_body 21 (omega arith),
        in_body 23 (omega arith),
      )

  pub count-more : count_of (x ++ t) ≡ count_of x
  unfolding count_of
  count-more = rw (carries-more, udp-more)

-- ---- packets one behind the other

-- the packets of which at least d bytes are there
abbrev pub reaching : ℕ → List Packet → List Packet
reaching d ps = only (λ p. leb d (length p.bytes)) ps

pub from-split : (k m τ q : ℕ) (b : List ℕ) →
    packets_from (k + m) τ q b ≡ packets_from k τ q b ++ packets_from m τ (q + 188 * k) (drop (188 * k) b)
unfolding packets_from
from-split zero m τ q b =
    let e : zero + m ≡ m = omega arith in
    let f : q + 188 * zero ≡ q = omega arith in
    rw (e, f)
from-split (suc k) m τ q b =
    let e : suc k + m ≡ suc (k + m) = omega arith in
    let f : q + 188 + 188 * k ≡ q + 188 * suc k = omega arith in
    let g : 188 + 188 * k ≡ 188 * suc k = omega arith in
    rw e
    (ap (λ (r : List Packet). record { time = τ; place = q; bytes = take 188 b } ∷ r)
    (from-split k m τ (q + 188) (drop 188 b) ∙ rw (drop-drop (188 * k) 188 b, f, g)))

pub from-done : (k τ q : ℕ) (b t : List ℕ) → 188 * k ≤ length b → packets_from k τ q (b ++ t) ≡ packets_from k τ q b
unfolding packets_from
from-done zero τ q b t h = refl
from-done (suc k) τ q b t h =
    rw (take-append-le 188 b t (omega arith), drop-append-le 188 b t (omega arith))
    (ap (λ (r : List Packet). record { time = τ; place = q; bytes = take 188 b } ∷ r)
    (from-done k τ (q + 188) (drop 188 b) t (simp length-drop (omega arith))))

module _ (d : ℕ) (small : d ≤ 188) where
  pub from-whole : (k τ q : ℕ) (b : List ℕ) → 188 * k ≤ length b →
      reaching d (packets_from k τ q b) ≡ packets_from k τ q b
  unfolding packets_from only
  from-whole zero τ q b h = refl
  from-whole (suc k) τ q b h =
      rw (le-leb d (length (take 188 b)) (simp length-take (omega arith)))
      (ap (λ (r : List Packet). record { time = τ; place = q; bytes = take 188 b } ∷ r)
      (from-whole k τ (q + 188) (drop 188 b) (simp length-drop (omega arith))))

  pub from-short : (m τ q : ℕ) (y : List ℕ) → length y < d → reaching d (packets_from m τ q y) ≡ []
  unfolding packets_from only
  from-short zero τ q y h = refl
  from-short (suc m) τ q y h =
      rw (lt-leb d (length (take 188 y)) (simp length-take (omega arith)))
      (from-short m τ (q + 188) (drop 188 y) (simp length-drop (omega arith)))

  pub from_first : (m τ q : ℕ) (y : List ℕ) → 0 < d → d ≤ length y → length y ≤ 188 →
      reaching d (packets_from (suc m) τ q y) ≡ record { time = τ; place = q; bytes = y } ∷ []
  unfolding packets_from only
  from_first m τ q y p h k =
      rw (
        take_all 188 y k,
        le-leb d (length y) h,
        drop_of_length-le y {i = 188} k,
        from-short m τ (q + 188) [] (omega arith),
      )

-- ---- whole frames have whole packets

-- a frame that carries has room for its packets
pub roomy : (f : List ℕ) → 0 < count_of f → 58 + 188 * count_of f ≤ frame_size f
unfolding count_of frame_size
roomy f = go (carries f) refl
  where
    go : (b : Bool) → carries f ≡ b → 0 < pick b ((udp_length f - 8) / 188) 0 →
        58 + 188 * pick b ((udp_length f - 8) / 188) 0 ≤ 16 + stored_length f
    go false e h = absurd (omega arith)
    go true e h = unfold carries in
        let front = holds_headers f && is_ipv4 f && is_plain f && is_unfragmented f && is_udp f in
        let p = both (front && lengths_agree f && is_stored_whole f) (holds_packets f) e in
        let q = both (front && lengths_agree f) (is_stored_whole f) p.0 in
        let r = both front (lengths_agree f) q.0 in
        let u = both (ltb 8 (udp_length f)) (eqb ((udp_length f - 8) % 188) 0) p.1 in
        let stored = leb-true (14 + ip_length f) (stored_length f) q.1 in
        let agree = eqb-true (ip_length f) (udp_length f + 20) r.1 in
        let some = ltb-true 8 (udp_length f) u.0 in
        omega arith

-- the frame is as long as its header says
abbrev pub Whole : List ℕ → Type 0
Whole f = length f ≡ frame_size f

size-take : (s : List ℕ) (n : ℕ) → 16 ≤ n → n ≤ length s → frame_size (take n s) ≡ frame_size s
size-take s n h k =
    sym (size-append (take n s) (drop n s) (rw (length-take-le n s k) h)) ∙ ap frame_size (take-append-drop n s)

pub frames-whole : (s : List ℕ) → All Whole (whole_frames s)
unfolding whole_frames
frames-whole s =
    by_frames (λ (x : List ℕ). All Whole (frames x))
    (λ x h. rw (frames-none x h) empty)
    (λ x h ih.
    rw (frames-one x h) (and
    (length-take-le (frame_size x) x h ∙ sym (size-take x (frame_size x) (size-least x) h)) ih))
    (behind_header s)

whole_room : (f : List ℕ) → Whole f → 188 * count_of f ≤ length (drop 58 f)
whole_room f w = elim (dec_le (count_of f) 0) [
  | yes z ↦ omega arith
  | no z ↦ let r = roomy f (omega arith) in let l = length-drop 58 f in omega arith
]

module _ (d : ℕ) (some : 0 < d) (small : d ≤ 188) where
  of-whole : (place : ℕ) (f : List ℕ) → Whole f → reaching d (packets_of place f) ≡ packets_of place f
  of-whole place f w =
      rw (of-from place f) (from-whole d small (count_of f) (frame_time f) (place + 58) (drop 58 f) (whole_room f w))

  packets-whole : (place : ℕ) {fs : List (List ℕ)} → All Whole fs → reaching d (packets place fs) ≡ packets place fs
  unfolding packets
  packets-whole place empty = unfold only in refl
  packets-whole place (and {x} {xs} w ws) =
      only-append (λ (p : Packet). leb d (length p.bytes)) (packets_of place x) (packets (place + length x) xs)
      ∙ rw (of-whole place x w, packets-whole (place + length x) ws)

  pub of_none : (place : ℕ) (f : List ℕ) → length f < 58 + d → reaching d (packets_of place f) ≡ []
  of_none place f h =
      rw (of-from place f)
      (from-short d small (count_of f) (frame_time f) (place + 58) (drop 58 f) (simp length-drop (omega arith)))

  -- ---- the packets of a capture: those of the whole frames, and those of the frame that is not whole yet

  single : (place : ℕ) (x : List ℕ) → packets place (x ∷ []) ≡ packets_of place x
  unfolding packets
  single place x = append-nil (packets_of place x)

  pub layout : (s : List ℕ) → reaching d (packets 24 (all_frames s))
      ≡ packets 24 (whole_frames s) ++ reaching d (packets_of (base s) (unfinished s))
  unfolding all_frames base
  layout s =
      rw (
        packets-append 24 (whole_frames s) (unfinished s ∷ []),
        single (24 + length (end_to_end (whole_frames s))) (unfinished s),
      )
      (only-append (λ (p : Packet). leb d (length p.bytes)) (packets 24 (whole_frames s))
      (packets_of (24 + length (end_to_end (whole_frames s))) (unfinished s))
      ∙ rw (packets-whole 24 (frames-whole s)))

  -- bytes more that do not pass the frame's end
  pub layout-more : (s t : List ℕ) → 24 ≤ length s → length (unfinished s ++ t) ≤ frame_size (unfinished s ++ t) →
      reaching d (packets 24 (all_frames (s ++ t)))
      ≡ packets 24 (whole_frames s) ++ reaching d (packets_of (base s) (unfinished s ++ t))
  layout-more s t h k = layout (s ++ t) ∙ go (dec_le (frame_size (unfinished s ++ t)) (length (unfinished s ++ t)))
    where
      go : Dec (frame_size (unfinished s ++ t) ≤ length (unfinished s ++ t)) →
          packets 24 (whole_frames (s ++ t)) ++ reaching d (packets_of (base (s ++ t)) (unfinished (s ++ t)))
          ≡ packets 24 (whole_frames s) ++ reaching d (packets_of (base s) (unfinished s ++ t))
      go (no g) = unfold base in rw (whole_part s t h (omega arith), unfinished-part s t h (omega arith))
      go (yes g) =
          let e : length (unfinished s ++ t) ≡ frame_size (unfinished s ++ t) = omega arith in
          rw (
            unfinished-full s t h e,
            of_none (base (s ++ t)) [] (omega arith),
            whole-full s t h e,
            of-whole (base s) (unfinished s ++ t) e,
          )
          (append-nil (packets 24 (whole_frames s ++ (unfinished s ++ t) ∷ []))
          ∙ unfold base in rw (
            packets-append 24 (whole_frames s) ((unfinished s ++ t) ∷ []),
            single (24 + length (end_to_end (whole_frames s))) (unfinished s ++ t),
          ))
