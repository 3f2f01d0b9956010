-- What a capture holds: a frame carries at most 348 packets, since its U is a 16-bit number, and every frame and
-- every packet of it has its bytes.
use Prim.Native.Nat.{ℕ, zero, suc, ◌+◌, ◌-◌, ◌*◌, ◌/◌, ◌%◌, ◌≤◌, ◌<◌}
use native.Mathlib.Omega.{arith}
use mathlib.Core.Path.{◌≡◌, refl, sym, ap, ◌∙◌}
use mathlib.Core.Bool.{Bool, true, false, ◌&&◌, ◌||◌}
use mathlib.Core.List.{List, [], ◌∷◌, map}
use lib.ListN.{length, take, drop, length-take, length-drop, take-append-drop}
use lib.Dec.{ltb, eqb}
use borrow.Author.Tests.{leb-true, ltb-true, ltb-false, eqb-true}
use Rattle.rules.specs.Bytes.{pick, byte, network16, total, only, All, and, empty, Bytes}
use Rattle.rules.specs.Frames.{stored_length, body, frame_size, frames, behind_header}
use Rattle.rules.specs.Packets.{ip_length, udp_length, holds_headers, is_ipv4, is_plain, is_unfragmented, is_udp}
use Rattle.rules.specs.Packets.{lengths_agree, is_stored_whole, holds_packets, carries}
use Rattle.rules.specs.Capture.{whole_frames, unfinished, capture_inside}
use Rattle.rules.proofs.Laws.Lists.{both, only-all}
use Rattle.capture_laws.proofs.Frames.{size-least, size-append, by_frames, frames-none, frames-one}
use Rattle.luma_laws.proofs.Pictures.{bytes_take, bytes_drop}
use Rattle.reader_facts.specs.Facts.{carrying, carried_cells}

byte_small : (s : List ℕ) → Bytes s → (i : ℕ) → byte s i < 256
byte_small [] h i = omega arith
byte_small (b ∷ s) (and h hs) zero = h
byte_small (b ∷ s) (and h hs) (suc i) = byte_small s hs i

few_packets : (f : List ℕ) → Bytes f → (udp_length f - 8) / 188 ≤ 348
unfolding udp_length network16 body
few_packets f h =
    let b = bytes_drop 16 f h in
    omega (arith, byte_small (drop 16 f) b 38, byte_small (drop 16 f) b 39)

frames-bytes : (s : List ℕ) → Bytes s → All Bytes (frames s)
frames-bytes =
    by_frames (λ (x : List ℕ). Bytes x → All Bytes (frames x))
    (λ x h b. rw (frames-none x h) empty)
    (λ x h ih b. rw (frames-one x h) (and (bytes_take (frame_size x) x b) (ih (bytes_drop (frame_size x) x b))))

packets-few : {fs : List (List ℕ)} → All Bytes fs → total (map (λ f. (udp_length f - 8) / 188) fs) ≤ 348 * length fs
unfolding total
packets-few empty = omega arith
packets-few (and {x} h hs) = let a = few_packets x h in let b = packets-few hs in omega arith

pub carried-few : (capture : List ℕ) → Bytes capture → carried_cells capture ≤ 348 * length (carrying capture)
unfolding carried_cells carrying whole_frames behind_header
carried-few capture b = packets-few (only-all carries (frames-bytes (drop 24 capture) (bytes_drop 24 capture b)))

-- ---- the bytes

-- a frame that carries: 42 bytes and its packets are within its L
carried-bytes : (f : List ℕ) → carries f ≡ true → 42 + 188 * ((udp_length f - 8) / 188) ≤ stored_length f
unfolding carries
carried-bytes f e =
    let front = holds_headers f && is_ipv4 f && is_plain f && is_unfragmented f && is_udp f in
    let a = both (front && lengths_agree f && is_stored_whole f) (holds_packets f) e in
    let b = both (front && lengths_agree f) (is_stored_whole f) a.0 in
    let c = both front (lengths_agree f) b.0 in
    let some = ltb-true 8 (udp_length f) (both (ltb 8 (udp_length f)) (eqb ((udp_length f - 8) % 188) 0) a.1).0 in
    let stored = leb-true (14 + ip_length f) (stored_length f) b.1 in
    let agree = eqb-true (ip_length f) (udp_length f + 20) c.1 in
    omega arith

-- the frame that a string begins with has the string's L
own-size : (s : List ℕ) → frame_size s ≤ length s → frame_size (take (frame_size s) s) ≡ frame_size s
own-size s h =
    let n = frame_size s in
    let long : 16 ≤ length (take n s) = omega (arith, length-take n s, size-least s) in
    sym (size-append (take n s) (drop n s) long) ∙ ap frame_size (take-append-drop n s)

-- what frames and their packets take at least
abbrev cells : List (List ℕ) → ℕ
cells fs = total (map (λ f. (udp_length f - 8) / 188) fs)

abbrev Held : List (List ℕ) → ℕ → Type 0
Held fs n = 16 * length fs + 42 * length (only carries fs) + 188 * cells (only carries fs) ≤ n

held_more : (f : List ℕ) (fs : List (List ℕ)) (n m : ℕ) → frame_size f ≡ m → Held fs n → Held (f ∷ fs) (m + n)
unfolding only total frame_size
held_more f fs n m e h = go (carries f) (carried-bytes f)
  where
    go : (t : Bool) → (t ≡ true → 42 + 188 * ((udp_length f - 8) / 188) ≤ stored_length f) →
        16 * suc (length fs) + 42 * length (pick t (f ∷ only carries fs) (only carries fs))
        + 188 * cells (pick t (f ∷ only carries fs) (only carries fs)) ≤ m + n
    go true k = omega (arith, k refl)
    go false k = omega arith

frames-held : (s : List ℕ) → Held (frames s) (length s)
frames-held =
    by_frames (λ (x : List ℕ). Held (frames x) (length x))
    (λ x h. rw (frames-none x h) (no_frames (length x)))
    (λ x h ih. rw (frames-one x h) (one x h ih))
  where
    no_frames : (n : ℕ) → Held [] n
    no_frames n = unfold only total in omega arith

    one : (x : List ℕ) → frame_size x ≤ length x →
        Held (frames (drop (frame_size x) x)) (length (drop (frame_size x) x)) →
        Held (take (frame_size x) x ∷ frames (drop (frame_size x) x)) (length x)
    one x h ih =
        let n : frame_size x + length (drop (frame_size x) x) ≡ length x =
        omega (arith, length-drop (frame_size x) x) in
        rw (← n)
        (held_more (take (frame_size x) x) (frames (drop (frame_size x) x)) (length (drop (frame_size x) x))
        (frame_size x)
        (own-size x h) ih)

-- the capture's header is there
header-there : (capture : List ℕ) → capture_inside capture ≡ false → 24 ≤ length capture
unfolding capture_inside
header-there capture e = go (ltb (length capture) 24) (ltb-false (length capture) 24) e
  where
    go : (a : Bool) → (a ≡ false → 24 ≤ length capture) → a || ltb 0 (length (unfinished capture)) ≡ false →
        24 ≤ length capture
    go false k e = k refl
    go true k e = absurd (let z : ◌≡◌ {A = ℕ} 0 1 = cc in omega arith)

pub capture-holds : (capture : List ℕ) → capture_inside capture ≡ false →
    24 + 16 * length (whole_frames capture) + 42 * length (carrying capture) + 188 * carried_cells capture
    ≤ length capture
unfolding carried_cells carrying whole_frames behind_header
capture-holds capture e =
    omega (arith, header-there capture e, frames-held (drop 24 capture), length-drop 24 capture)
