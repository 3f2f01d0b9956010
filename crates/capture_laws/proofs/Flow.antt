-- What a few bytes more of a frame do to the packets of a capture, and to what is counted of them.
use Prim.Native.Nat.{ℕ, suc, ◌+◌, ◌-◌, ◌*◌, ◌≤◌, ◌<◌}
use native.Mathlib.Omega.{arith}
use mathlib.Core.Path.{◌≡◌, refl, ◌∙◌}
use mathlib.Core.List.{List, [], ◌∷◌, ◌++◌, append-nil, append_assoc}
use mathlib.Core.Bool.{Bool, true, false, not}
use lib.ListN.{length, drop, length-append, length-drop}
use lib.Seq.{drop-append-le, drop-drop}
use lib.Dec.{leb}
use Rattle.rules.specs.declared.Opening.{Opening}
use Rattle.rules.specs.Bytes.{pick, count, only}
use Rattle.rules.specs.Refusals.{Fault, none}
use Rattle.rules.specs.Frames.{frame_time, frame_size}
use Rattle.rules.specs.Editions.{knows_damage}
use Rattle.rules.specs.Packets.{Packet, carries, packets_from, packets_of, packets, shown, whole, skipped}
use Rattle.rules.specs.Packets.{wanted_of, bad_of}
use Rattle.rules.specs.Units.{Arrival, before_units, beginnings}
use Rattle.rules.specs.Capture.{whole_frames, unfinished, all_frames, whole_wanted, shown_wanted, bad_count}
use Rattle.rules.specs.Capture.{begins_at}
use Rattle.rules.specs.Capture.{too_many_units}
use Rattle.capture_laws.specs.UnderWay.{Split, current}
use Rattle.rules.proofs.Laws.Lists.{only-append, count-append}
use Rattle.capture_laws.proofs.Onward.{base, of-from}
use Rattle.capture_laws.proofs.Onward.{time-more, count-more, reaching, from-split, from-done, from-whole}
use Rattle.capture_laws.proofs.Onward.{from-short, from_first, of_none, layout, layout-more}

-- all packets of a capture of which at least d bytes are there
abbrev pub reached : ℕ → List ℕ → List Packet
reached d s = reaching d (packets 24 (all_frames s))

-- the packets behind: those of the whole frames, and k of the frame that is not whole yet
unfoldable pub passed : List ℕ → ℕ → List Packet
passed s k =
    packets 24 (whole_frames s) ++ packets_from k (frame_time (unfinished s)) (base s + 58) (drop 58 (unfinished s))

-- the packet under way, with the bytes y
abbrev pub packet_at : List ℕ → ℕ → List ℕ → Packet
packet_at s k y = record { time = frame_time (unfinished s); place = base s + 58 + 188 * k; bytes = y }

module _ (d : ℕ) (some : 0 < d) (small : d ≤ 188) where
  of-split : (q : ℕ) (r t : List ℕ) (k m : ℕ) → Split r k m →
      reaching d (packets_of q (r ++ t))
      ≡ packets_from k (frame_time r) (q + 58) (drop 58 r)
      ++ reaching d (packets_from m (frame_time r) (q + 58 + 188 * k) (current r k ++ t))
  of-split q r t k m p =
      let room : 188 * k ≤ length (drop 58 r) = simp length-drop (omega (arith, p.past)) in
      rw (
        of-from q (r ++ t),
        count-more r t p.there,
        time-more r t p.there,
        drop-append-le 58 r t p.there,
        ← p.count,
        from-split k m (frame_time r) (q + 58) (drop 58 r ++ t),
        from-done k (frame_time r) (q + 58) (drop 58 r) t room,
        drop-append-le (188 * k) (drop 58 r) t room,
        drop-drop (188 * k) 58 r,
      )
      (only-append (λ (x : Packet). leb d (length x.bytes)) (packets_from k (frame_time r) (q + 58) (drop 58 r))
      (packets_from m (frame_time r) (q + 58 + 188 * k) (current r k ++ t))
      ∙ rw (from-whole d small k (frame_time r) (q + 58) (drop 58 r) room))

  module _ (s : List ℕ) (h : 24 ≤ length s) where
    -- before the first packet
    pub early : (t : List ℕ) → length (unfinished s ++ t) < 58 + d →
        length (unfinished s ++ t) ≤ frame_size (unfinished s ++ t) → reached d (s ++ t) ≡ reached d s
    early t k fits =
        layout-more d some small s t h fits
        ∙ rw (
          of_none d some small (base s) (unfinished s ++ t) k,
          layout d some small s,
          of_none d some small (base s) (unfinished s) (omega (arith, length-append (unfinished s) t)),
        )

    module _ (k m : ℕ) (p : Split (unfinished s) k m) where
      now : reached d s ≡ passed s k
          ++ reaching d (packets_from m (frame_time (unfinished s)) (base s + 58 + 188 * k)
          (current (unfinished s) k))
      unfolding passed
      now =
          let e = of-split (base s) (unfinished s) [] k m p in
          let f = rw (append-nil (unfinished s), append-nil (current (unfinished s) k)) at e in
          layout d some small s ∙ rw (f, append_assoc)

      more : (t : List ℕ) → length (unfinished s ++ t) ≤ frame_size (unfinished s ++ t) →
          reached d (s ++ t) ≡ passed s k ++ reaching d
          (packets_from m (frame_time (unfinished s)) (base s + 58 + 188 * k) (current (unfinished s) k ++ t))
      unfolding passed
      more t fits = layout-more d some small s t h fits ∙ rw (of-split (base s) (unfinished s) t k m p, append_assoc)

      -- less than d bytes of the packet under way are there
      pub now_short : length (current (unfinished s) k) < d → reached d s ≡ passed s k
      now_short g = now ∙ rw (from-short d small m (frame_time (unfinished s)) (base s + 58 + 188 * k)
          (current (unfinished s) k) g) (append-nil (passed s k))

      pub more-short : (t : List ℕ) → length (unfinished s ++ t) ≤ frame_size (unfinished s ++ t) →
          length (current (unfinished s) k ++ t) < d → reached d (s ++ t) ≡ passed s k
      more-short t fits g =
          more t fits ∙ rw (from-short d small m (frame_time (unfinished s)) (base s + 58 + 188 * k)
          (current (unfinished s) k ++ t) g) (append-nil (passed s k))

    -- no packet is left
    module _ (k : ℕ) (p : Split (unfinished s) k 0) where
      pub now-done : reached d s ≡ passed s k
      unfolding packets_from only
      now-done = now k 0 p ∙ append-nil (passed s k)

      pub more-done : (t : List ℕ) → length (unfinished s ++ t) ≤ frame_size (unfinished s ++ t) →
          reached d (s ++ t) ≡ passed s k
      unfolding packets_from only
      more-done t fits = more k 0 p t fits ∙ append-nil (passed s k)

    -- d bytes or more of it are there
    module _ (k m : ℕ) (p : Split (unfinished s) k (suc m)) where
      pub now-first : d ≤ length (current (unfinished s) k) → length (current (unfinished s) k) ≤ 188 →
          reached d s ≡ passed s k ++ packet_at s k (current (unfinished s) k) ∷ []
      now-first g l = now k (suc m) p ∙ rw (from_first d small m (frame_time (unfinished s)) (base s + 58 + 188 * k)
          (current (unfinished s) k) some g l)

      pub more-first : (t : List ℕ) → length (unfinished s ++ t) ≤ frame_size (unfinished s ++ t) →
          d ≤ length (current (unfinished s) k ++ t) →
          length (current (unfinished s) k ++ t) ≤ 188 →
          reached d (s ++ t) ≡ passed s k ++ packet_at s k (current (unfinished s) k ++ t) ∷ []
      more-first t fits g l =
          more k (suc m) p t fits ∙ rw (from_first d small m (frame_time (unfinished s)) (base s + 58 + 188 * k)
          (current (unfinished s) k ++ t) some g l)

-- ---- refusal 9, of packets that show what they are

unfoldable pub nine : Opening → List Packet → Fault
nine o ps = begins_at (drop 750 (beginnings o.edition (wanted_of o ps)))

pub nine-of : (o : Opening) (s : List ℕ) → too_many_units o s ≡ nine o (reached 4 s)
unfolding nine too_many_units shown_wanted shown
nine-of o s = refl

pub few-begin : (o : Opening) (ps : List Packet) → nine o ps ≡ none →
    length (beginnings o.edition (wanted_of o ps)) ≤ 750
unfolding nine
few-begin o ps h = go (drop 750 bs) (length-drop 750 bs) h
  where
    bs : List Arrival
    bs = beginnings o.edition (wanted_of o ps)

    go : (xs : List Arrival) → length xs ≡ length bs - 750 → begins_at xs ≡ none → length bs ≤ 750
    go [] e n = omega arith
    go (x ∷ xs) e n = let z : ◌≡◌ {A = ℕ} 0 1 = cc in absurd (omega arith)

-- ---- the counts

pub bad-of : (o : Opening) (s : List ℕ) →
    bad_count o s ≡ bad_of (reached 188 s) + before_units (knows_damage o.edition) (wanted_of o (reached 188 s))
unfolding bad_count whole_wanted whole
bad-of o s = refl

pub wanted-of : (o : Opening) (s : List ℕ) → whole_wanted o s ≡ wanted_of o (reached 188 s)
unfolding whole_wanted whole
wanted-of o s = refl

pub skipped-more : (fs : List (List ℕ)) (f : List ℕ) → skipped (fs ++ f ∷ []) ≡ skipped fs + pick (carries f) 0 1
unfolding skipped count
skipped-more fs f = count-append (λ (x : List ℕ). not (carries x)) fs (f ∷ []) ∙ go (carries f)
  where
    go : (b : Bool) →
        count (λ x. not (carries x)) fs + (pick (not b) 1 0 + 0) ≡ count (λ x. not (carries x)) fs + pick b 0 1
    go true = omega arith
    go false = omega arith
