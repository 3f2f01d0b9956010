-- How many frames and packets a capture can have: no more than its bytes allow.
use Prim.Native.Nat.{ℕ, zero, suc, ◌+◌, ◌*◌, ◌≤◌}
use native.Mathlib.Omega.{arith}
use native.Mathlib.Decide.{dec_le}
use mathlib.Core.Path.{◌≡◌, ap, ◌∙◌}
use mathlib.Core.List.{List, [], ◌∷◌, ◌++◌}
use mathlib.Core.Bool.{Bool, true, false, not, ◌&&◌}
use lib.ListN.{length, take, drop, length-append, length-take, length-drop}
use lib.Dec.{leb, eqb}
use borrow.Author.Tests.{le-leb, lt-leb}
use Rattle.rules.specs.declared.Opening.{Opening}
use Rattle.rules.specs.Bytes.{pick, count, only, end_to_end, All, and, empty}
use Rattle.rules.specs.Frames.{frame_time, behind_header, frames, rest}
use Rattle.rules.specs.Editions.{knows_damage}
use Rattle.rules.specs.Packets.{Packet, carries, packets_from, packets_of, packets, skipped, condition, is_bad}
use Rattle.rules.specs.Packets.{identifier, is_wanted, wanted_of, bad_of}
use Rattle.rules.specs.Units.{set_apart, before_units}
use Rattle.rules.specs.Capture.{whole_frames, unfinished, all_frames, whole_wanted, frame_count, skipped_count}
use Rattle.rules.specs.Capture.{bad_count}
use Rattle.capture_laws.specs.UnderWay.{count_of}
use Rattle.rules.proofs.Laws.Lists.{count-few, only-append, end_to_end-append, by-test}
use Rattle.capture_laws.proofs.Frames.{size-least, frames-all}
use Rattle.capture_laws.proofs.Onward.{Whole, frames-whole, of-from, reaching}
use Rattle.capture_laws.proofs.Flow.{reached, bad-of, wanted-of}

module _ {A : Type 0} (test : A → Bool) where
  pub only-few : (xs : List A) → length (only test xs) ≤ length xs
  unfolding only
  only-few [] = omega arith
  only-few (x ∷ xs) =
      let h = only-few xs in
      by-test (λ (b : Bool). length (pick b (x ∷ only test xs) (only test xs)) ≤ suc (length xs)) (test x)
      (λ e. omega arith) (λ e. omega arith)

-- ---- frames

frames-few : {fs : List (List ℕ)} → All Whole fs → length fs ≤ length (end_to_end fs)
unfolding end_to_end
frames-few empty = omega arith
frames-few (and {x} {xs} w ws) =
    let h = frames-few ws in
    let l = length-append x (end_to_end xs) in
    let k = size-least x in
    omega arith

-- the whole frames' bytes and the others are at most all
all-bytes : (s : List ℕ) → length (end_to_end (whole_frames s)) + length (unfinished s) ≤ length s
unfolding whole_frames unfinished behind_header
all-bytes s =
    let e = ap length (frames-all (drop 24 s)) in
    let l = length-append (end_to_end (frames (drop 24 s))) (rest (drop 24 s)) in
    let d = length-drop 24 s in
    omega arith

pub frame-count-few : (s : List ℕ) → frame_count s ≤ length s
unfolding frame_count
frame-count-few s = let h = frames-few (frames-whole s) in let a = all-bytes s in omega arith

pub skipped-few : (s : List ℕ) → skipped_count s ≤ frame_count s
unfolding skipped_count frame_count skipped
skipped-few s = count-few (λ (f : List ℕ). not (carries f)) (whole_frames s)

-- ---- packets

from-few : (m τ q : ℕ) (y : List ℕ) → 188 * length (reaching 188 (packets_from m τ q y)) ≤ length y
unfolding packets_from only
from-few zero τ q y = omega arith
from-few (suc m) τ q y = go (dec_le 188 (length y)) (from-few m τ (q + 188) (drop 188 y))
  where
    more : List Packet
    more = reaching 188 (packets_from m τ (q + 188) (drop 188 y))

    go : Dec (188 ≤ length y) → 188 * length more ≤ length (drop 188 y) →
        188 * length (pick (leb 188 (length (take 188 y)))
        (record { time = τ; place = q; bytes = take 188 y } ∷ more) more) ≤ length y
    go (yes g) h =
        rw (le-leb 188 (length (take 188 y)) (simp length-take (omega arith)))
        (let d = length-drop 188 y in omega arith)
    go (no g) h =
        rw (lt-leb 188 (length (take 188 y)) (simp length-take (omega arith)))
        (let d = length-drop 188 y in omega arith)

of-few : (place : ℕ) (f : List ℕ) → 188 * length (reaching 188 (packets_of place f)) ≤ length f
of-few place f =
    rw (of-from place f) (let h = from-few (count_of f) (frame_time f) (place + 58) (drop 58 f) in
    let d = length-drop 58 f in omega arith)

packets-few : (place : ℕ) (fs : List (List ℕ)) →
    188 * length (reaching 188 (packets place fs)) ≤ length (end_to_end fs)
unfolding packets end_to_end
packets-few place [] = unfold only in omega arith
packets-few place (f ∷ fs) =
    let e =
    only-append (λ (p : Packet). leb 188 (length p.bytes)) (packets_of place f) (packets (place + length f) fs) in
    rw e
    (let l = length-append (reaching 188 (packets_of place f)) (reaching 188 (packets (place + length f) fs)) in
    let a = of-few place f in
    let b = packets-few (place + length f) fs in
    let j = length-append f (end_to_end fs) in
    omega arith)

pub reached-few : (s : List ℕ) → 188 * length (reached 188 s) ≤ length s
unfolding all_frames
reached-few s =
    let h = packets-few 24 (whole_frames s ++ unfinished s ∷ []) in
    let j = ap length (end_to_end-append (whole_frames s) (unfinished s ∷ [])) in
    let l = length-append (end_to_end (whole_frames s)) (end_to_end (unfinished s ∷ [])) in
    let a = all-bytes s in
    let e : length (end_to_end (unfinished s ∷ [])) ≡ length (unfinished s) =
    unfold end_to_end in length-append (unfinished s) [] ∙ omega arith in
    omega arith

-- no packet is bad and of PID
bad-or-wanted : (o : Opening) (ps : List Packet) → bad_of ps + length (wanted_of o ps) ≤ length ps
unfolding bad_of count wanted_of only is_wanted
bad-or-wanted o [] = omega arith
bad-or-wanted o (p ∷ ps) =
    go (is_bad (condition p.bytes)) (eqb (identifier p.bytes) o.pid) (bad-or-wanted o ps)
  where
    go : (b i : Bool) → bad_of ps + length (wanted_of o ps) ≤ length ps →
        pick b 1 0 + bad_of ps + length (pick (not b && i) (p ∷ wanted_of o ps) (wanted_of o ps)) ≤ suc (length ps)
    go true i h = omega arith
    go false true h = omega arith
    go false false h = omega arith

before-few : (known : Bool) (ps : List Packet) → before_units known ps ≤ length ps
unfolding before_units
before-few known [] = omega arith
before-few known (p ∷ ps) = go (set_apart known p) (before-few known ps)
  where
    go : (t : Bool) → before_units known ps ≤ length ps → pick t (suc (before_units known ps)) 0 ≤ suc (length ps)
    go true h = omega arith
    go false h = omega arith

pub bad-few : (o : Opening) (s : List ℕ) → 188 * bad_count o s ≤ length s
bad-few o s =
    rw (bad-of o s)
    (let h = bad-or-wanted o (reached 188 s) in
    let b = before-few (knows_damage o.edition) (wanted_of o (reached 188 s)) in
    let r = reached-few s in
    omega arith)

pub wanted-few : (o : Opening) (s : List ℕ) → 188 * length (whole_wanted o s) ≤ length s
wanted-few o s =
    rw (wanted-of o s)
    (let h : length (wanted_of o (reached 188 s)) ≤ length (reached 188 s) = unfold wanted_of in
    only-few (λ (p : Packet). is_wanted o p.bytes) (reached 188 s) in
    let r = reached-few s in
    omega arith)
