-- A frame that lies whole in the piece: what the walk stands for behind it, and the cells that it brings.
use Prim.{tt}
use Rattle.std.proofs.Common.{◌≡◌, ℕ, ◌+◌, ◌-◌, ◌*◌, ◌/◌, ◌%◌, ◌^◌, ◌<◌, ◌≤◌, Bool, true, false, ◌&&◌, eqb, ltb, List}
use Rattle.std.proofs.Common.{[], ◌∷◌, ◌++◌, map, length, take, drop, sym, refl, ap, ◌∙◌, append-nil, arith}
use Rattle.std.proofs.Common.{length-append, length-drop, take-append-drop, length-take-le, drop-drop, ltb-true}
use Rattle.std.proofs.Common.{eqb-true}
use native.Mathlib.Decide.{dec_le}
use lib.Seq.{drop-append-le}
use Rattle.rules.specs.Bytes.{pick}
use Rattle.rules.specs.Refusals.{none}
use Rattle.rules.specs.Frames.{microseconds, stored_length, frame_size, frame_time}
use Rattle.rules.specs.Packets.{Packet, carries, holds_headers, is_ipv4, is_plain, is_unfragmented, is_udp}
use Rattle.rules.specs.Packets.{lengths_agree}
use Rattle.rules.specs.Packets.{is_stored_whole, holds_packets, udp_length, packets_from, packets, skipped}
use Rattle.rules.specs.Capture.{whole_frames, unfinished}
use Rattle.capture_laws.specs.UnderWay.{count_of, Fine}
use Rattle.rules.proofs.Laws.Lists.{both}
use Rattle.capture_laws.proofs.Onward.{base, base_sum, whole-full, unfinished-full, of-from, time-more}
use Rattle.capture_laws.proofs.Onward.{count-more, from-done, from-whole, roomy, of_none, layout, layout-more}
use Rattle.capture_laws.proofs.Flow.{reached, skipped-more}
use Rattle.capture_laws.proofs.Format.{Sound, sound-of, next-none}
use Rattle.capture_cells.specs.Cells.{cell_of}
use Rattle.capture_steps.specs.declared.types.Walk.{Walk}
use Rattle.capture_steps.specs.declared.types.Event.TheVariants.{Nothing, Cells}
use Rattle.capture_steps.specs.Format.{format_fault, cells_from}
use Rattle.capture_steps.specs.State.{Core, Stands, live}
use Rattle.capture_steps.specs.Contract.{Ahead, Passed}
use Rattle.capture_steps.proofs.Lists.{from-cells, gains-none, gains-many, level}
use Rattle.capture_steps.proofs.Fits.{size_is, stored_more, micro-more}
use Rattle.capture_steps.proofs.Ends.{one_at_most, counts-few}

no_bytes : (l : List ℕ) → length l ≡ 0 → l ≡ []
no_bytes [] h = refl
no_bytes (x ∷ l) h = absurd (omega arith)

-- a frame carries if it has cells
carries-some : (f : List ℕ) → 0 < count_of f → carries f ≡ true
unfolding count_of
carries-some f = go (carries f)
  where
    go : (b : Bool) → 0 < pick b ((udp_length f - 8) / 188) 0 → b ≡ true
    go true h = refl
    go false h = absurd (omega arith)

carries-none : (f : List ℕ) → count_of f ≡ 0 → carries f ≡ false
unfolding count_of
carries-none f = go (carries f) refl
  where
    go : (b : Bool) → carries f ≡ b → pick b ((udp_length f - 8) / 188) 0 ≡ 0 → b ≡ false
    go false e h = refl
    go true e h = unfold carries in
        let front = holds_headers f && is_ipv4 f && is_plain f && is_unfragmented f && is_udp f && lengths_agree f
        && is_stored_whole f in
        let p = both front (holds_packets f) e in
        let u = both (ltb 8 (udp_length f)) (eqb ((udp_length f - 8) % 188) 0) p.1 in
        let some = ltb-true 8 (udp_length f) u.0 in
        let fits = eqb-true ((udp_length f - 8) % 188) 0 u.1 in
        absurd (omega arith)

module _ {k : List ℕ} {s : Walk} {joined : List ℕ} (start : 24 ≤ length joined)
    (u : Core k s (whole_frames joined) (unfinished joined) joined)
    (x : List ℕ) (n : ℕ) (a : Ahead s x n) where
  abbrev f : List ℕ
  f = take n x

  empty : unfinished joined ≡ []
  empty = no_bytes (unfinished joined) (sym u.many ∙ a.next)

  long : length f ≡ n
  long = length-take-le n x a.there

  far : 58 ≤ length f
  far = rw long a.long

  stored : stored_length f ≡ stored_length x
  stored = sym (stored_more f (drop n x) (omega (arith, far))) ∙ ap stored_length (take-append-drop n x)

  micro : microseconds f ≡ microseconds x
  micro = sym (micro-more f (drop n x) (omega (arith, far))) ∙ ap microseconds (take-append-drop n x)

  count-is : count_of x ≡ count_of f
  count-is = ap count_of (sym (take-append-drop n x)) ∙ count-more f (drop n x) far

  time-is : frame_time x ≡ frame_time f
  time-is = ap frame_time (sym (take-append-drop n x)) ∙ time-more f (drop n x) far

  size : frame_size f ≡ n
  size = size_is f ∙ rw stored (sym a.size)

  joined-f : unfinished joined ++ f ≡ f
  joined-f = rw empty refl

  all : length (unfinished joined ++ f) ≡ frame_size (unfinished joined ++ f)
  all = rw joined-f (long ∙ sym size)

  fits : length (unfinished joined ++ f) ≤ frame_size (unfinished joined ++ f)
  fits = let e = all in omega arith

  fine : Fine (unfinished joined ++ f)
  fine = rw joined-f (record { time = λ h. rw micro a.time; size = λ h. rw stored a.stored })

  few : length (joined ++ f) ≤ 268435456
  few = let l = length-append joined f in let m = u.fed in let r = a.limit in let g = long in omega arith

  sound : Sound joined
  sound = sound-of joined u.clear

  clear : format_fault (joined ++ f) ≡ none
  clear = next-none joined f start fits few sound fine

  -- the cells so far, and the frame's
  abbrev old : List Packet
  old = packets 24 (whole_frames joined)

  abbrev new : List Packet
  new = packets_from (count_of f) (frame_time f) (base joined + 58) (drop 58 f)

  room : 0 < count_of f → 58 + 188 * count_of f ≤ n
  room h = let r = roomy f h in let e = size in omega arith

  whole : 188 * count_of f ≤ length (drop 58 f)
  whole = elim (dec_le (count_of f) 0) [
    | yes z ↦ omega arith
    | no z ↦ let r = room (omega arith) in let l = length-drop 58 f in let e = long in omega arith
  ]

  reached-old : (d : ℕ) → 0 < d → d ≤ 188 → reached d joined ≡ old
  reached-old d some small =
      layout d some small joined ∙ rw (empty, of_none d some small (base joined) [] (omega arith)) (append-nil old)

  reached-new : (d : ℕ) → 0 < d → d ≤ 188 → reached d (joined ++ f) ≡ old ++ new
  reached-new d some small =
      layout-more d some small joined f start fits
      ∙ rw (
        joined-f,
        of-from (base joined) f,
        from-whole d small (count_of f) (frame_time f) (base joined + 58) (drop 58 f) whole,
      )

  -- they are taken as they stand in the piece
  as-they-stand : packets_from (count_of x) (frame_time x) (base joined + 58) (drop 58 x) ≡ new
  as-they-stand =
      let e : drop 58 x ≡ drop 58 f ++ drop n x =
      ap (drop 58) (sym (take-append-drop n x)) ∙ drop-append-le 58 f (drop n x) far in
      rw (count-is, time-is, e)
      (from-done (count_of f) (frame_time f) (base joined + 58) (drop 58 f) (drop n x) whole)

  place : base joined ≡ s.fed
  place = let e = base_sum joined start in let g = u.many in let h = u.fed in let z = a.next in omega arith

  numbers : (length (whole_frames joined) ≤ 268435456) × (skipped (whole_frames joined) ≤ 268435456)
  numbers = let l = length-append joined f in let g = few in counts-few joined (omega arith)

  -- behind the frame
  stands : (r : Walk) → r.status ≡ s.status → r.fed ≡ s.fed + n → r.at ≡ s.at →
      r.frames ≡ (s.frames + 1) % 2 ^ 64 →
      r.skipped ≡ (s.skipped + pick (carries f) 0 1) % 2 ^ 64 → Stands k r (joined ++ f)
  stands r rs rf ra rn rk =
      live (let l = length-append joined f in omega arith)
      (rw (whole-full joined f start all, unfinished-full joined f start all, joined-f)
      (record {
        room = u.room;
        status = rs ∙ u.status;
        clear = clear;
        fed = let l = length-append joined f in let m = u.fed in let g = long in omega arith;
        frames =
            let l = length-append (whole_frames joined) (f ∷ []) in
            let m = u.frames in
            let g = numbers.0 in
            omega arith;
        skipped =
            let l = skipped-more (whole_frames joined) f in
            let m = u.skipped in
            let g = numbers.1 in
            let p = one_at_most (carries f) in
            omega arith;
        many = ra ∙ a.next;
        size = λ z. absurd (omega arith);
        bytes = λ i y z. absurd (omega arith);
        under = λ z. absurd (omega arith);
      }))

  -- it has no cells
  pub frame-skipped : {c : ℕ} (m : ℕ) (piece : List ℕ) (r : Walk) → c ≡ count_of x → c ≡ 0 → r.status ≡ s.status →
      r.fed ≡ s.fed + n → r.at ≡ s.at →
      r.frames ≡ (s.frames + 1) % 2 ^ 64 → r.skipped ≡ (s.skipped + 1) % 2 ^ 64 →
      Passed k (record { taken = m; walk = r; event = Nothing }) piece joined (joined ++ f)
  unfolding packets_from
  frame-skipped m piece r e z rs rf ra rn rk =
      let c : count_of f ≡ 0 = sym count-is ∙ sym e ∙ z in
      let d : carries f ≡ false = carries-none f c in
      let g : old ++ new ≡ old = rw c (append-nil old) in
      record {
        stands = stands r rs rf ra rn (rw d rk);
        tells =
            gains-none clear (reached-new 4 (omega arith) (omega arith) ∙ g
            ∙ sym (reached-old 4 (omega arith) (omega arith)))
            (reached-new 188 (omega arith) (omega arith) ∙ g ∙ sym (reached-old 188 (omega arith) (omega arith)));
        calm = tt;
      }

  -- it has some
  pub frame-counted : {c τ : ℕ} (m : ℕ) (piece : List ℕ) (i : ℕ) (r : Walk) → x ≡ drop i piece → c ≡ count_of x →
      (c ≡ 0 → ⊥) → τ ≡ frame_time x →
      r.status ≡ s.status → r.fed ≡ s.fed + n → r.at ≡ s.at → r.frames ≡ (s.frames + 1) % 2 ^ 64 →
      r.skipped ≡ s.skipped →
      Passed k (record {
        taken = m;
        walk = r;
        event = Cells (record { at = i + 58; many = c; time = τ; place = s.fed + 58 });
      }) piece joined (joined ++ f)
  frame-counted {c} {τ} m piece i r xe e z te rs rf ra rn rk =
      let some : 0 < count_of f = omega (arith, count-is, e, z) in
      let y : carries f ≡ true = carries-some f some in
      let d : drop (i + 58) piece ≡ drop 58 x = sym (rw xe (drop-drop 58 i piece)) in
      let cs : map cell_of new ≡ cells_from c τ (s.fed + 58) (drop (i + 58) piece) =
      ap (map cell_of) (sym as-they-stand) ∙ from-cells (count_of x) (frame_time x) (base joined + 58) (drop 58 x)
      ∙ rw (place, e, te, d) in
      record {
        stands =
            stands r rs rf ra rn
            (let p : ◌≡◌ {A = ℕ} (pick (carries f) 0 1) 0 = rw y in
            let g = numbers.1 in
            let h = u.skipped in
            omega arith);
        tells = (
          gains-many clear old new (cells_from c τ (s.fed + 58) (drop (i + 58) piece)) cs
              (reached-old 4 (omega arith) (omega arith)) (reached-old 188 (omega arith) (omega arith))
              (reached-new 4 (omega arith) (omega arith)) (reached-new 188 (omega arith) (omega arith)),
          level joined old (reached-old 4 (omega arith) (omega arith)) (reached-old 188 (omega arith) (omega arith)),
        );
        calm = tt;
      }

-- a frame that is there as a whole has its cells within it, whatever the state stands for
pub frame-fits : {s : Walk} {x : List ℕ} {n c : ℕ} (i : ℕ) (piece : List ℕ) → Ahead s x n → x ≡ drop i piece →
    i ≤ length piece → c ≡ count_of x → (c ≡ 0 → ⊥) →
    (i + 58 + 188 * c ≤ length piece) × (s.fed + 58 + 188 * c ≤ 268435456)
frame-fits {s} {x} {n} {c} i piece a e h ce z =
    let r = roomy x (omega (arith, ce, z)) in
    let g = size_is x in
    let l = ap length e in
    let m = length-drop i piece in
    (omega (arith, a.there, a.size), omega (arith, a.limit, a.size))
