-- After its bytes are in, a frame goes on or is whole.
use Rattle.std.proofs.Common.{◌≡◌, ℕ, ◌+◌, ◌%◌, ◌^◌, ◌<◌, ◌≤◌, Bool, true, false, List, [], ◌∷◌, ◌++◌, length, sym}
use Rattle.std.proofs.Common.{◌∙◌, arith, length-append}
use native.Mathlib.Decide.{dec_le}
use borrow.Author.Tests.{lt-leb}
use Rattle.rules.specs.Bytes.{pick}
use Rattle.rules.specs.Frames.{stored_length, frame_size}
use Rattle.rules.specs.Packets.{carries, skipped}
use Rattle.rules.specs.Capture.{whole_frames, unfinished, frame_count, skipped_count}
use Rattle.capture_laws.proofs.Frames.{size-least}
use Rattle.capture_laws.proofs.Onward.{whole_part, unfinished-part, whole-full, unfinished-full}
use Rattle.capture_laws.proofs.Flow.{skipped-more}
use Rattle.capture_laws.proofs.Format.{long_of, sound-of}
use Rattle.capture_laws.proofs.Bounds.{frame-count-few, skipped-few}
use Rattle.capture_cells.proofs.Agree.{stored-agree, carries-agree}
use Rattle.capture_steps.specs.declared.types.Walk.{Walk}
use Rattle.capture_steps.specs.State.{Stands, live}
use Rattle.capture_steps.specs.Contract.{Taken, Settles}
use Rattle.capture_steps.proofs.Fits.{size_is}
use Rattle.capture_steps.proofs.Front.{Held, held-agree}

-- a frame too short for the three headers does not carry
carries-short : (f : List ℕ) → stored_length f < 42 → carries f ≡ false
unfolding carries
carries-short f h = rw (lt-leb 42 (stored_length f) h)

pub one_at_most : (b : Bool) → pick b 0 1 ≤ 1
one_at_most true = omega arith
one_at_most false = omega arith

-- no more frames than bytes
pub counts-few : (joined : List ℕ) → length joined ≤ 268435456 → (length (whole_frames joined) ≤ 268435456)
    × (skipped (whole_frames joined) ≤ 268435456)
counts-few joined h =
    let a : length (whole_frames joined) ≤ length joined = unfold frame_count in frame-count-few joined in
    let b : skipped (whole_frames joined) ≤ length (whole_frames joined) =
    unfold frame_count skipped_count in skipped-few joined in
    (omega arith, omega arith)

module _ {k : List ℕ} {s : Walk} {joined chunk : List ℕ} (v : Taken k s joined chunk) where
  onward : 24 ≤ length (joined ++ chunk)
  onward = let l = length-append joined chunk in let h = v.start in omega arith

  pub goes_on : length (unfinished joined ++ chunk) < frame_size (unfinished joined ++ chunk) →
      Stands k s (joined ++ chunk)
  goes_on h = live onward
      (rw (whole_part joined chunk v.start h, unfinished-part joined chunk v.start h) v.core)

  pub in-header : s.at < 16 → Stands k s (joined ++ chunk)
  in-header h = goes_on (let m = v.core.many in let l = size-least (unfinished joined ++ chunk) in omega arith)

  size-known : 16 ≤ s.at → (s.size ≡ stored_length (unfinished joined ++ chunk)) × (s.size ≤ 65535)
  size-known h =
      let m = v.core.many in
      let g : 12 ≤ length (unfinished joined ++ chunk) = omega arith in
      let e = v.core.size g in
      let f = v.fine.size g in
      (e, omega arith)

  pub in_body : 16 ≤ s.at → s.at < (16 + s.size) % 2 ^ 64 → Stands k s (joined ++ chunk)
  in_body h g =
      let z = size-known h in
      let e = z.0 in
      let f = z.1 in
      let m = v.core.many in
      let i = size_is (unfinished joined ++ chunk) in
      goes_on (omega arith)

  module _ (h : 16 ≤ s.at) (g : (16 + s.size) % 2 ^ 64 ≤ s.at) where
    all : length (unfinished joined ++ chunk) ≡ frame_size (unfinished joined ++ chunk)
    all =
        let z = size-known h in
        let e = z.0 in
        let f = z.1 in
        let m = v.core.many in
        let i = size_is (unfinished joined ++ chunk) in
        let j = v.fits in
        omega arith

    bytes : Held k (unfinished joined ++ chunk)
    bytes = record { held = v.core.bytes }

    -- what is collected tells whether a whole frame carries
    carries-now : carries k ≡ carries (unfinished joined ++ chunk)
    carries-now = elim (dec_le 58 (length (unfinished joined ++ chunk))) [
      | yes d ↦ carries-agree (held-agree 58 bytes d (omega arith)) (omega arith)
      | no d ↦
          let i = size_is (unfinished joined ++ chunk) in
          let a = all in
          let m = v.core.many in
          let e = stored-agree (held-agree 12 bytes (omega arith) (omega arith)) (omega arith) in
          carries-short k (omega arith) ∙ sym (carries-short (unfinished joined ++ chunk) (omega arith))
    ]

    counts : (length (whole_frames joined) ≤ 268435456) × (skipped (whole_frames joined) ≤ 268435456)
    counts =
        let f = long_of (joined ++ chunk) (sound-of (joined ++ chunk) v.core.clear).long in
        let l = length-append joined chunk in
        counts-few joined (omega arith)

    -- the frame is whole
    at-end : (r : Walk) → r.status ≡ s.status → r.fed ≡ s.fed → r.at ≡ 0 → r.frames ≡ (s.frames + 1) % 2 ^ 64 →
        r.skipped ≡ (s.skipped + pick (carries k) 0 1) % 2 ^ 64 → Stands k r (joined ++ chunk)
    at-end r rs rf ra rn rk =
        live onward
        (rw (whole-full joined chunk v.start all, unfinished-full joined chunk v.start all)
        (record {
          room = v.core.room;
          status = rs ∙ v.core.status;
          clear = v.core.clear;
          fed = rf ∙ v.core.fed;
          frames =
              let l = length-append (whole_frames joined) ((unfinished joined ++ chunk) ∷ []) in
              let f = v.core.frames in
              let c = counts.0 in
              omega arith;
          skipped =
              let l = skipped-more (whole_frames joined) (unfinished joined ++ chunk) in
              let f = v.core.skipped in
              let c = counts.1 in
              let q : r.skipped ≡ (s.skipped + pick (carries (unfinished joined ++ chunk)) 0 1) % 2 ^ 64 =
              rw (← carries-now) rk in
              let p = one_at_most (carries (unfinished joined ++ chunk)) in
              omega arith;
          many = ra;
          size = λ x. absurd (omega arith);
          bytes = λ i x y. absurd (omega arith);
          under = λ x. absurd (omega arith);
        }))

    -- it carries, or is skipped
    pub end-carries : {t : Bool} (r : Walk) → t ≡ carries k → t ≡ true → r.status ≡ s.status → r.fed ≡ s.fed →
        r.at ≡ 0 →
        r.frames ≡ (s.frames + 1) % 2 ^ 64 → r.skipped ≡ s.skipped → Stands k r (joined ++ chunk)
    end-carries r e f rs rf ra rn rk =
        at-end r rs rf ra rn
        (let p : ◌≡◌ {A = ℕ} (pick (carries k) 0 1) 0 = rw (← e, f) in
        let c = counts.1 in
        let j = v.core.skipped in
        omega arith)

    pub end-skipped : {t : Bool} (r : Walk) → t ≡ carries k → t ≡ false → r.status ≡ s.status → r.fed ≡ s.fed →
        r.at ≡ 0 →
        r.frames ≡ (s.frames + 1) % 2 ^ 64 → r.skipped ≡ (s.skipped + 1) % 2 ^ 64 → Stands k r (joined ++ chunk)
    end-skipped r e f rs rf ra rn rk =
        at-end r rs rf ra rn (let p : ◌≡◌ {A = ℕ} (pick (carries k) 0 1) 1 = rw (← e, f) in omega arith)

-- within a header nothing is to be settled
pub settles-header : {k : List ℕ} {s : Walk} → s.at < 16 → Settles k s s
settles-header h joined chunk v = in-header v h
