-- Refusal 9 stays: the packets that show what they are stay, and later bytes show further
-- ones only behind the old bytes.
use Prim.Native.Nat.{ℕ, zero, suc, ◌+◌, ◌-◌, ◌/◌, ◌≤◌, ◌<◌}
use native.Mathlib.Omega.{arith}
use native.Mathlib.Nat.{lt_of_not-le}
use native.Mathlib.Decide.{dec_le}
use mathlib.Core.Path.{◌≡◌, refl, sym, ap, ◌∙◌}
use mathlib.Core.List.{List, [], ◌∷◌, ◌++◌, append-nil}
use mathlib.Core.Bool.{Bool, true, false, true≢false, false≢true}
use lib.ListN.{length, take, drop, length-append, length-take, length-drop, drop_of_length-le, get_or-append}
use lib.Seq.{length-take-le, get_or-take, drop-append-le, take-append-add}
use lib.Dec.{leb}
use borrow.Author.Tests.{le-leb, lt-leb}
use Rattle.rules.specs.declared.Opening.{Opening}
use Rattle.rules.specs.Bytes.{pick, byte, only, All, and, empty}
use Rattle.rules.specs.Refusals.{fault}
use Rattle.rules.specs.Frames.{frame_time, body, frame_size, frames, rest}
use Rattle.rules.specs.Frames.{behind_header}
use Rattle.rules.specs.Editions.{knows_damage}
use Rattle.rules.specs.Packets.{Packet, udp_length, carries, packets_from, packets_in, packets_of, packets}
use Rattle.rules.specs.Packets.{shown, starts_cell, damage_mark, condition, identifier, is_wanted, start_mark}
use Rattle.rules.specs.Packets.{wanted_of}
use Rattle.rules.specs.Units.{Arrival, set_apart, arrivals_after, arrivals, beginnings}
use Rattle.rules.specs.Capture.{whole_frames, unfinished, all_frames, shown_wanted, begins_at, too_many_units}
use Rattle.rules.specs.Capture.{capture_fault}
use Rattle.rules.proofs.Laws.Lists.{by-pick, by-picks, all_drop, all_append, only-all, only-append}
use Rattle.capture_laws.proofs.Faults.{no_fault, at_fault, late_fault, Grows, same, new, grows-kept}
use Rattle.capture_laws.proofs.Faults.{earlier-grows, format-grows}
use Rattle.capture_laws.proofs.Frames.{size-least, size-append, frames-none, rest-none, frames-one, rest-one}
use Rattle.capture_laws.proofs.Frames.{frames-onward, rest-onward, by_frames}
use Rattle.capture_laws.proofs.Onward.{udp-more, time-more, carries-more}

-- its byte 3 stands at n or later; before n
abbrev After : ℕ → Packet → Type 0
After n p = n ≤ p.place + 3

abbrev Early : ℕ → Packet → Type 0
Early n p = p.place + 3 < n

-- the same packet, of which more bytes may be there
pub record Alike (n : ℕ) (p q : Packet) : Type 0 where
  pub place : q.place ≡ p.place
  pub early : p.place + 3 < n
  pub bytes : (i : ℕ) → i < 4 → byte q.bytes i ≡ byte p.bytes i

pub data Extends (n : ℕ) : List Packet → List Packet → Type 0 where
  ends : {qs : List Packet} → All (After n) qs → Extends n [] qs
  pair : {p q : Packet} {ps qs : List Packet} → Alike n p q → Extends n ps qs → Extends n (p ∷ ps) (q ∷ qs)

extends-late : {n : ℕ} {ps qs rs : List Packet} → Extends n ps qs → All (After n) rs → Extends n ps (qs ++ rs)
extends-late (ends h) r = ends (all_append h r)
extends-late (pair a e) r = pair a (extends-late e r)

extends-both : {n : ℕ} {ps qs rs : List Packet} → All (Early n) ps → Extends n qs rs → Extends n (ps ++ qs) (ps ++ rs)
extends-both empty e = e
extends-both (and h hs) e = pair (record { place = refl; early = h; bytes = λ i g. refl }) (extends-both hs e)

-- ---- the packets behind each other

from-late : (n m time place : ℕ) (s : List ℕ) → n ≤ place + 3 → All (After n) (packets_from m time place s)
unfolding packets_from
from-late n zero time place s h = empty
from-late n (suc m) time place s h = and h (from-late n m time (place + 188) (drop 188 s) (omega arith))

from-none : (m time place : ℕ) (s : List ℕ) → length s < 4 → shown (packets_from m time place s) ≡ []
unfolding shown only packets_from
from-none zero time place s h = refl
from-none (suc m) time place s h =
    rw (lt-leb 4 (length (take 188 s)) (simp length-take (omega arith)))
    (from-none m time (place + 188) (drop 188 s) (simp length-drop (omega arith)))

from-early : (n m time place : ℕ) (s : List ℕ) → place + length s ≤ n →
    All (Early n) (shown (packets_from m time place s))
unfolding shown only packets_from
from-early n zero time place s h = empty
from-early n (suc m) time place s h =
    go (dec_le 4 (length s)) (dec_le 188 (length s)) (from-early n m time (place + 188) (drop 188 s))
  where
    go : Dec (4 ≤ length s) → Dec (188 ≤ length s) →
        (place + 188 + length (drop 188 s) ≤ n →
        All (Early n) (shown (packets_from m time (place + 188) (drop 188 s)))) →
        All (Early n) (shown (packets_from (suc m) time place s))
    go (no g) d ih = rw (from-none (suc m) time place s (lt_of_not-le g)) empty
    go (yes g) (yes k) ih =
        let e : place + 3 < n = omega arith in
        rw (le-leb 4 (length (take 188 s)) (simp length-take (omega arith)))
        (and e (ih (simp length-drop (omega arith))))
    go (yes g) (no k) ih =
        let e : place + 3 < n = omega arith in
        rw (
          le-leb 4 (length (take 188 s)) (simp length-take (omega arith)),
          drop_of_length-le s {i = 188} (omega arith),
          from-none m time (place + 188) [] (omega arith),
        )
        (and e empty)

from-grow : (n m time place : ℕ) (s t : List ℕ) → n ≡ place + length s →
    Extends n (shown (packets_from m time place s)) (shown (packets_from m time place (s ++ t)))
unfolding shown only packets_from
from-grow n zero time place s t h = ends empty
from-grow n (suc m) time place s t h =
    go (dec_le 4 (length s)) (dec_le 188 (length s)) (from-grow n m time (place + 188) (drop 188 s) t)
  where
    first : 4 ≤ length s → Alike n (record { time = time; place = place; bytes = take 188 s })
        (record { time = time; place = place; bytes = take 188 (s ++ t) })
    first g =
        record {
          place = refl;
          early = omega arith;
          bytes = λ i k. get_or-take 188 (s ++ t) i 0 (omega arith) ∙ get_or-append s t 0 i (omega arith)
              ∙ sym (get_or-take 188 s i 0 (omega arith));
        }

    old : 4 ≤ length s → leb 4 (length (take 188 s)) ≡ true
    old g = le-leb 4 (length (take 188 s)) (simp length-take (omega arith))

    longer : 4 ≤ length s → leb 4 (length (take 188 (s ++ t))) ≡ true
    longer g = le-leb 4 (length (take 188 (s ++ t))) (simp (length-take, length-append) (omega arith))

    go : Dec (4 ≤ length s) → Dec (188 ≤ length s) →
        (n ≡ place + 188 + length (drop 188 s) → Extends n (shown (packets_from m time (place + 188) (drop 188 s)))
        (shown (packets_from m time (place + 188) (drop 188 s ++ t)))) →
        Extends n (shown (packets_from (suc m) time place s)) (shown (packets_from (suc m) time place (s ++ t)))
    go (no g) d ih =
        rw (from-none (suc m) time place s (lt_of_not-le g))
        (ends (only-all (λ (p : Packet). leb 4 (length p.bytes))
        (from-late n (suc m) time place (s ++ t) (omega arith))))
    go (yes g) (yes k) ih =
        rw (old g, longer g, drop-append-le 188 s t k) (pair (first g) (ih (simp length-drop (omega arith))))
    go (yes g) (no k) ih =
        rw (
          old g,
          longer g,
          drop_of_length-le s {i = 188} (omega arith),
          from-none m time (place + 188) [] (omega arith),
        )
        (pair (first g)
        (ends (only-all (λ (p : Packet). leb 4 (length p.bytes))
        (from-late n m time (place + 188) (drop 188 (s ++ t)) (omega arith)))))

-- ---- the packets of a frame

abbrev is_shown : Packet → Bool
is_shown p = leb 4 (length p.bytes)

of-late : (n place : ℕ) (f : List ℕ) → n ≤ place + 61 → All (After n) (shown (packets_of place f))
unfolding shown packets_of packets_in
of-late n place f h = only-all is_shown (by-pick (All (After n)) (carries f)
    (from-late n ((udp_length f - 8) / 188) (frame_time f) (place + 58) (drop 42 (body f)) (omega arith)) empty)

of-early : (n place : ℕ) (f : List ℕ) → place + length f ≤ n → All (Early n) (shown (packets_of place f))
unfolding shown packets_of packets_in only body
of-early n place f h = go (carries f) (dec_le 58 (length f))
  where
    go : (b : Bool) → Dec (58 ≤ length f) → All (Early n) (shown (pick b (packets_in place f) []))
    go false d = empty
    go true (yes g) =
        from-early n ((udp_length f - 8) / 188) (frame_time f) (place + 58) (drop 42 (drop 16 f))
        (simp length-drop (omega arith))
    go true (no g) =
        rw (from-none ((udp_length f - 8) / 188) (frame_time f) (place + 58) (drop 42 (drop 16 f))
        (simp length-drop (omega arith))) empty

first-packet : (x t : List ℕ) → 62 ≤ length x → drop 42 (body (x ++ t)) ≡ drop 42 (body x) ++ t
unfolding body
first-packet x t h =
    rw (drop-append-le 16 x t (omega arith)) (drop-append-le 42 (drop 16 x) t (simp length-drop (omega arith)))

in-grow : (n place : ℕ) (x t : List ℕ) → n ≡ place + length x → 62 ≤ length x →
    Extends n (shown (packets_in place x)) (shown (packets_in place (x ++ t)))
unfolding packets_in
in-grow n place x t e h =
    rw (udp-more x t (omega arith), time-more x t (omega arith), first-packet x t h)
    (from-grow n ((udp_length x - 8) / 188) (frame_time x) (place + 58) (drop 42 (body x)) t
    (unfold body in simp length-drop (omega arith)))

in-none : (place : ℕ) (x : List ℕ) → length x < 62 → shown (packets_in place x) ≡ []
unfolding packets_in body
in-none place x h = from-none ((udp_length x - 8) / 188) (frame_time x) (place + 58) (drop 42 (drop 16 x))
    (simp length-drop (omega arith))

of_none : (place : ℕ) (x : List ℕ) → length x < 62 → shown (packets_of place x) ≡ []
unfolding packets_of shown only
of_none place x h = by-pick (λ (ps : List Packet). shown ps ≡ []) (carries x) (in-none place x h) refl

of-grow : (n place : ℕ) (x t : List ℕ) → n ≡ place + length x →
    Extends n (shown (packets_of place x)) (shown (packets_of place (x ++ t)))
unfolding packets_of shown only
of-grow n place x t e = elim (dec_le 62 (length x)) [
  | yes h ↦ rw (carries-more x t (omega arith))
      (by-picks (λ (ps qs : List Packet). Extends n (shown ps) (shown qs)) (carries x) (in-grow n place x t e h)
      (ends empty))
  | no h ↦ rw (of_none place x (lt_of_not-le h)) (ends (of-late n place (x ++ t) (omega arith)))
]

-- ---- the packets of frames

shown-append : (ps qs : List Packet) → shown (ps ++ qs) ≡ shown ps ++ shown qs
unfolding shown
shown-append ps qs = only-append is_shown ps qs

single : (place : ℕ) (x : List ℕ) → packets place (x ∷ []) ≡ packets_of place x
unfolding packets
single place x = append-nil (packets_of place x)

split : (place : ℕ) (f : List ℕ) (fs : List (List ℕ)) →
    shown (packets place (f ∷ fs)) ≡ shown (packets_of place f) ++ shown (packets (place + length f) fs)
unfolding packets
split place f fs = shown-append (packets_of place f) (packets (place + length f) fs)

packets-late : (n place : ℕ) (fs : List (List ℕ)) → n ≤ place → All (After n) (shown (packets place fs))
packets-late n place [] h = unfold shown only packets in empty
packets-late n place (f ∷ fs) h =
    rw (split place f fs)
    (all_append (of-late n place f (omega arith)) (packets-late n (place + length f) fs (omega arith)))

abbrev pieces : List ℕ → List (List ℕ)
pieces x = frames x ++ rest x ∷ []

-- a frame that is not whole is the front of the frame that it becomes
cut-is : (x t : List ℕ) → length x < frame_size x →
    take (frame_size (x ++ t)) (x ++ t) ≡ x ++ take (frame_size (x ++ t) - length x) t
cut-is x t h =
    let e : frame_size (x ++ t) ≡ length x + (frame_size (x ++ t) - length x) =
    omega (arith, longer (dec_le 16 (length x))) in
    ap (λ (m : ℕ). take m (x ++ t)) e ∙ take-append-add x t (frame_size (x ++ t) - length x)
  where
    longer : Dec (16 ≤ length x) → length x ≤ frame_size (x ++ t)
    longer (yes g) = let e = size-append x t g in omega arith
    longer (no g) = let e = size-least (x ++ t) in omega arith

module _ (n : ℕ) (t : List ℕ) where
  cut-extends : (x : List ℕ) → length x < frame_size x → (place : ℕ) → n ≡ place + length x →
      Dec (frame_size (x ++ t) ≤ length (x ++ t)) →
      Extends n (shown (packets place (pieces x))) (shown (packets place (pieces (x ++ t))))
  cut-extends x c place e (yes g) =
      let u = take (frame_size (x ++ t) - length x) t in
      let fs = frames (drop (frame_size (x ++ t)) (x ++ t)) ++ rest (x ++ t) ∷ [] in
      rw (
        frames-none x c,
        rest-none x c,
        frames-one (x ++ t) g,
        single place x,
        split place (take (frame_size (x ++ t)) (x ++ t)) fs,
        cut-is x t c,
      )
      (extends-late (of-grow n place x u e)
      (packets-late n (place + length (x ++ u)) fs (simp length-append (omega arith))))
  cut-extends x c place e (no g) =
      rw (
        frames-none x c,
        rest-none x c,
        frames-none (x ++ t) (lt_of_not-le g),
        rest-none (x ++ t) (lt_of_not-le g),
        single place x,
        single place (x ++ t),
      )
      (of-grow n place x t e)

  pieces-extend : (x : List ℕ) (place : ℕ) → n ≡ place + length x →
      Extends n (shown (packets place (pieces x))) (shown (packets place (pieces (x ++ t))))
  pieces-extend =
      by_frames (λ (x : List ℕ). (place : ℕ) → n ≡ place + length x →
      Extends n (shown (packets place (pieces x))) (shown (packets place (pieces (x ++ t)))))
      (λ x c place e. cut-extends x c place e (dec_le (frame_size (x ++ t)) (length (x ++ t))))
      (λ x c ih place e.
      let f = take (frame_size x) x in
      let y = drop (frame_size x) x in
      rw (
        frames-one x c,
        rest-one x c,
        frames-onward x t c,
        rest-onward x t c,
        split place f (pieces y),
        split place f (pieces (y ++ t)),
      )
      (extends-both (of-early n place f (rw (length-take-le (frame_size x) x c) (omega arith)))
      (ih (place + length f) (rw (length-take-le (frame_size x) x c, length-drop) (omega arith)))))

-- ---- the packets of PID

condition-alike : {n : ℕ} {p q : Packet} → Alike n p q → condition q.bytes ≡ condition p.bytes
unfolding condition starts_cell damage_mark
condition-alike a = rw (a.bytes 0 (omega arith), a.bytes 1 (omega arith))

wanted-alike : (o : Opening) {n : ℕ} {p q : Packet} → Alike n p q → is_wanted o q.bytes ≡ is_wanted o p.bytes
unfolding is_wanted identifier
wanted-alike o a = rw (condition-alike a, a.bytes 1 (omega arith), a.bytes 2 (omega arith))

wanted-extends : (o : Opening) {n : ℕ} {ps qs : List Packet} → Extends n ps qs →
    Extends n (wanted_of o ps) (wanted_of o qs)
unfolding wanted_of only
wanted-extends o (ends h) = ends (only-all (λ (p : Packet). is_wanted o p.bytes) h)
wanted-extends o {n} (pair {p} a e) =
    let r = wanted-extends o e in
    rw (wanted-alike o a) (by-picks (Extends n) (is_wanted o p.bytes) (pair a r) r)

-- ---- the units that begin

abbrev Behind : ℕ → Arrival → Type 0
Behind n a = n ≤ a.place + 3

data Follows (n : ℕ) : List Arrival → List Arrival → Type 0 where
  stops : {bs : List Arrival} → All (Behind n) bs → Follows n [] bs
  next : {a b : Arrival} {xs bs : List Arrival} → b.place ≡ a.place → b.begins ≡ a.begins → a.place + 3 < n →
      Follows n xs bs → Follows n (a ∷ xs) (b ∷ bs)

module _ (known : Bool) where
  after-late : (n : ℕ) (q : Packet) {qs : List Packet} → All (After n) qs →
      All (Behind n) (arrivals_after false known q qs)
  unfolding arrivals_after
  after-late n q empty = empty
  after-late n q (and {x} h hs) =
      by-pick (All (Behind n)) (set_apart known x) (and h (after-late n q hs)) (and h (after-late n x hs))

  arrivals-late : (n : ℕ) {qs : List Packet} → All (After n) qs → All (Behind n) (arrivals false known qs)
  unfolding arrivals
  arrivals-late n empty = empty
  arrivals-late n (and {x} h hs) =
      by-pick (All (Behind n)) (set_apart known x) (arrivals-late n hs) (and h (after-late n x hs))

  start-alike : {n : ℕ} {p q : Packet} → Alike n p q → start_mark q.bytes ≡ start_mark p.bytes
  unfolding start_mark
  start-alike a = rw (a.bytes 1 (omega arith))

  apart-alike : {n : ℕ} {p q : Packet} → Alike n p q → set_apart known q ≡ set_apart known p
  unfolding set_apart
  apart-alike a = rw (condition-alike a)

  after-follows : {n : ℕ} (p q : Packet) {ps qs : List Packet} → Extends n ps qs →
      Follows n (arrivals_after false known p ps) (arrivals_after false known q qs)
  unfolding arrivals_after
  after-follows {n} p q (ends h) = stops (after-late n q h)
  after-follows {n} p q (pair {p = p'} {q = q'} a e) = rw (apart-alike a) (by-picks (Follows n) (set_apart known p')
      (next a.place refl a.early (after-follows p q e))
      (next a.place (start-alike a) a.early (after-follows p' q' e)))

  arrivals-follow : {n : ℕ} {ps qs : List Packet} → Extends n ps qs →
      Follows n (arrivals false known ps) (arrivals false known qs)
  unfolding arrivals
  arrivals-follow {n} (ends h) = stops (arrivals-late n h)
  arrivals-follow {n} (pair {p} {q} a e) = rw (apart-alike a) (by-picks (Follows n) (set_apart known p)
      (arrivals-follow e) (next a.place refl a.early (after-follows p q e)))

abbrev begins_unit : Arrival → Bool
begins_unit a = a.begins

begins-follow : {n : ℕ} {xs bs : List Arrival} → Follows n xs bs →
    Follows n (only begins_unit xs) (only begins_unit bs)
unfolding only
begins-follow (stops h) = stops (only-all begins_unit h)
begins-follow {n} (next {a} {b} {xs} {bs} p e l f) = go a.begins b.begins e (begins-follow f)
  where
    go : (t u : Bool) → u ≡ t → Follows n (only begins_unit xs) (only begins_unit bs) →
        Follows n (pick t (a ∷ only begins_unit xs) (only begins_unit xs))
        (pick u (b ∷ only begins_unit bs) (only begins_unit bs))
    go true true z r = next p e l r
    go true false z r = absurd (false≢true z)
    go false true z r = absurd (true≢false z)
    go false false z r = r

drop-follow : {n : ℕ} (k : ℕ) {xs bs : List Arrival} → Follows n xs bs → Follows n (drop k xs) (drop k bs)
drop-follow zero f = f
drop-follow (suc k) (stops h) = stops (all_drop (suc k) h)
drop-follow (suc k) (next p e l f) = drop-follow k f

at-follow : {n : ℕ} {xs bs : List Arrival} → Follows n xs bs → Grows n (begins_at xs) (begins_at bs)
at-follow (stops empty) = same no_fault
at-follow (stops (and h hs)) = new (late_fault h)
at-follow (next p e l f) = rw p (same (at_fault l))

shown-extend : (s t : List ℕ) →
    Extends (length s) (shown (packets 24 (all_frames s))) (shown (packets 24 (all_frames (s ++ t))))
unfolding all_frames whole_frames unfinished behind_header
shown-extend s t = elim (dec_le 24 (length s)) [
  | yes g ↦
      rw (drop-append-le 24 s t g) (pieces-extend (length s) t (drop 24 s) 24 (simp length-drop (omega arith)))
  | no g ↦
      let c : length {A = ℕ} [] < frame_size [] = omega (arith, size-least []) in
      rw (
        drop_of_length-le s {i = 24} (omega arith),
        frames-none [] c,
        rest-none [] c,
        single 24 [],
        of_none 24 [] (omega arith),
      )
      (ends (packets-late (length s) 24 (pieces (drop 24 (s ++ t))) (omega arith)))
]

pub units-grow : (o : Opening) (s t : List ℕ) → Grows (length s) (too_many_units o s) (too_many_units o (s ++ t))
unfolding too_many_units beginnings shown_wanted
units-grow o s t = at-follow
    (drop-follow 750 (begins-follow
    (arrivals-follow (knows_damage o.edition) (wanted-extends o (shown-extend s t)))))

-- ---- THE LAW: what the capture shows first, it shows first for good

capture-grows : (o : Opening) (s t : List ℕ) → Grows (length s) (capture_fault o s) (capture_fault o (s ++ t))
unfolding capture_fault
capture-grows o s t = earlier-grows (format-grows s t) (units-grow o s t)

pub capture-kept : (o : Opening) (s t : List ℕ) (k p : ℕ) → capture_fault o s ≡ fault k p →
    capture_fault o (s ++ t) ≡ fault k p
capture-kept o s t k p h = grows-kept (capture-grows o s t) h
