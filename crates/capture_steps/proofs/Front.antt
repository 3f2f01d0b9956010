-- Bytes of a frame's header or of the first 42 behind it: what the walk stands for behind them.
use Prim.{tt}
use Rattle.std.proofs.Common.{◌≡◌, ℕ, ◌+◌, ◌-◌, ◌<◌, ◌≤◌, List, ◌++◌, length, get_or, sym, ◌∙◌, arith}
use Rattle.std.proofs.Common.{length-append, get_or-append-add}
use native.Mathlib.Decide.{dec_lt}
use lib.ListN.{get_or-append}
use Rattle.rules.specs.Bytes.{byte}
use Rattle.rules.specs.Frames.{microseconds, stored_length, frame_size}
use Rattle.rules.specs.Capture.{whole_frames, unfinished}
use Rattle.capture_laws.specs.UnderWay.{count_of, Fine}
use Rattle.capture_laws.proofs.Onward.{base, base_sum, unfinished-short}
use Rattle.capture_laws.proofs.Flow.{reached, early}
use Rattle.capture_cells.specs.Cells.{Agree}
use Rattle.capture_cells.proofs.Agree.{micro-agree, stored-agree, count-agree}
use Rattle.capture_steps.specs.declared.types.Walk.{Walk}
use Rattle.capture_steps.specs.declared.types.Event.TheVariants.{Nothing, Refused}
use Rattle.capture_steps.specs.Format.{shown_cells}
use Rattle.capture_steps.specs.State.{Under, Core}
use Rattle.capture_steps.specs.Contract.{Carried, Within, Taken, Settles, Passed}
use Rattle.capture_laws.proofs.Format.{Sound, sound-of, fine-now, next-none, next-seven, next-eight}
use Rattle.capture_steps.proofs.Lists.{shown-same, gains-none}
use Rattle.capture_steps.proofs.Fits.{stored_more, fine-skip, fits-run}
use Rattle.capture_steps.proofs.Pieces.{refuse-now}

-- ---- collected bytes: those of t, from the place at on; those before stay

pub record Placed (k : List ℕ) (at : ℕ) (t k' : List ℕ) : Type 0 where
  pub size : length k' ≡ length k
  pub new : (i : ℕ) → i < length t → get_or k' (at + i) 0 ≡ byte t i
  pub below : (j : ℕ) → j < at → get_or k' j 0 ≡ get_or k j 0

pub placed : {k k' t : List ℕ} {at : ℕ} → length k ≡ 64 → Carried k at t k' → Placed k at t k'
placed l c = record { size = c.size; new = c.new l; below = c.below }

-- the bytes of r, as far as they go and the first 58 at most
pub record Held (k r : List ℕ) : Type 0 where
  pub held : (i : ℕ) → i < length r → i < 58 → get_or k i 0 ≡ byte r i

pub held-agree : {k r : List ℕ} (n : ℕ) → Held k r → n ≤ length r → n ≤ 58 → Agree n k r
held-agree n h a b = record { bytes = λ i g. h.held i (omega arith) (omega arith) }

pub held_more : {k k' r t : List ℕ} → Held k r → Placed k (length r) t k' → Held k' (r ++ t)
held_more {k} {k'} {r} {t} h p = record { held = λ i x y. go i x y (dec_lt i (length r)) }
  where
    go : (i : ℕ) → i < length (r ++ t) → i < 58 → Dec (i < length r) → get_or k' i 0 ≡ byte (r ++ t) i
    go i x y (yes d) = p.below i d ∙ h.held i d y ∙ sym (get_or-append r t 0 i d)
    go i x y (no d) =
        let j : ℕ = i - length r in
        let l = length-append r t in
        let e : length r + j ≡ i = omega arith in
        let g : byte (r ++ t) (length r + j) ≡ byte t j = get_or-append-add r t j 0 in
        rw (← e) (p.new j (omega arith) ∙ sym g)

module _ {k : List ℕ} {s : Walk} {joined : List ℕ} (start : 24 ≤ length joined)
    (u : Core k s (whole_frames joined) (unfinished joined) joined)
    (k' : List ℕ) (r : Walk) (t : List ℕ) (pl : Placed k s.at t k')
    (v : Within s.at s.size (length t))
    (room : s.fed + length t ≤ 268435456) where
  many : length (unfinished joined ++ t) ≡ s.at + length t
  many = let l = length-append (unfinished joined) t in let m = u.many in omega arith

  few : length (joined ++ t) ≤ 268435456
  few = let l = length-append joined t in let m = u.fed in omega arith

  sound : Sound joined
  sound = sound-of joined u.clear

  fine : Fine (unfinished joined)
  fine = fine-now start sound

  field : Within (length (unfinished joined)) s.size (length t)
  field = rw (← u.many) v

  fits : length (unfinished joined ++ t) ≤ frame_size (unfinished joined ++ t)
  fits = fits-run (unfinished joined) t s.size fine field (unfinished-short joined) u.size

  held : Held k' (unfinished joined ++ t)
  held = held_more {k = k} {r = unfinished joined} {t = t} (record { held = u.bytes }) (rw (← u.many) pl)

  quiet : (d : ℕ) → 0 < d → d ≤ 188 → reached d (joined ++ t) ≡ reached d joined
  quiet d p q = let f = v.front in early d p q joined start t (omega (arith, many)) fits

  stood : length k' ≡ 64
  stood = pl.size ∙ u.room

  place-now : base joined + length (unfinished joined) ≡ s.fed
  place-now = base_sum joined start ∙ sym u.fed

  -- what is the same, whatever the bytes show. w is the walk when r is settled
  module _ (n : ℕ) (piece : List ℕ) (w : Walk) (st : Settles k' r w) (rs : r.status ≡ s.status)
      (rf : r.fed ≡ s.fed + length t) (ra : r.at ≡ s.at + length t) (rn : r.frames ≡ s.frames)
      (rk : r.skipped ≡ s.skipped) where
    taken : Fine (unfinished joined ++ t) → (12 ≤ s.at + length t → r.size ≡ stored_length (unfinished joined ++ t)) →
        (58 ≤ s.at + length t → Under k' r (unfinished joined ++ t)) → Taken k' r joined t
    taken f z un =
        record {
          start = start;
          fits = fits;
          fine = f;
          core = record {
            room = stood;
            status = rs ∙ u.status;
            clear = next-none joined t start fits few sound f;
            fed = let l = length-append joined t in let m = u.fed in omega arith;
            frames = rn ∙ u.frames;
            skipped = rk ∙ u.skipped;
            many = ra ∙ sym many;
            size = λ h. z (omega (arith, many));
            bytes = held.held;
            under = λ h. un (omega (arith, many));
          };
        }

    -- these bytes bring no cell
    abbrev Here : Type 0
    Here = Passed k' (record { taken = n; walk = w; event = Nothing }) piece joined (joined ++ t)

    done : Taken k' r joined t → Here
    done x =
        record {
          stands = st joined t x;
          tells = gains-none x.core.clear (quiet 4 (omega arith) (omega arith))
              (quiet 188 (omega arith) (omega arith));
          calm = tt;
        }

    -- of the header
    pub header-on : s.at + length t ≤ 16 → (8 ≤ s.at + length t → microseconds k' ≤ 999999) →
        (12 ≤ s.at + length t → (stored_length k' ≤ 65535) × (r.size ≡ stored_length k')) → Here
    header-on e m z =
        done (taken
        (record {
          time = λ x.
              let g = micro-agree (held-agree 8 held x (omega arith)) (omega arith) in
              let h = m (omega (arith, many)) in
              omega arith;
          size = λ x.
              let g = stored-agree (held-agree 12 held x (omega arith)) (omega arith) in
              let h = (z (omega (arith, many))).0 in
              omega arith;
        })
        (λ x. (z x).1 ∙ stored-agree (held-agree 12 held (omega (arith, many)) (omega arith)) (omega arith))
        (λ x. absurd (omega arith)))

    -- behind it
    module _ (late : 16 ≤ s.at) (e : r.size ≡ s.size) where
      known : 12 ≤ length (unfinished joined)
      known = let m = u.many in omega arith

      fine-on : Fine (unfinished joined ++ t)
      fine-on = fine-skip (unfinished joined) t known fine

      size-on : r.size ≡ stored_length (unfinished joined ++ t)
      size-on = e ∙ u.size known ∙ sym (stored_more (unfinished joined) t known)

      pub front-plain : (s.at + length t ≡ 58 → ⊥) → Here
      front-plain g =
          done (taken fine-on (λ x. size-on) (λ h. let f = v.front in absurd (g (omega arith))))

      -- the last of the first 42 bytes: the cells come next
      pub front-last : s.at + length t ≡ 58 → r.left ≡ count_of k' → r.got ≡ 0 → Here
      front-last f l g =
          let there : 58 ≤ length (unfinished joined ++ t) = omega (arith, many) in
          let c : r.left ≡ count_of (unfinished joined ++ t) =
          l ∙ count-agree (held-agree 58 held there (omega arith)) (omega arith) in
          done
          (taken fine-on (λ x. size-on)
          (λ h.
          record {
            behind = 0;
            split = record { there = there; count = omega (arith, c); past = omega (arith, there) };
            going = λ x. omega (arith, many);
            part = λ x. omega arith;
            first = λ x i y w. absurd (omega arith);
          }))

  -- 7 and 8
  hushed : shown_cells (joined ++ t) ≡ shown_cells joined
  hushed = shown-same joined (joined ++ t) (quiet 4 (omega arith) (omega arith))

  pub front-bad-time : (n : ℕ) (piece : List ℕ) → 8 ≤ s.at + length t → 999999 < microseconds k' → r.status ≡ 7 →
      r.place ≡ s.fed + 7 - s.at →
      Passed k' (record { taken = n; walk = r; event = Refused }) piece joined (joined ++ t)
  front-bad-time n piece e h rs rp =
      let f = v.front in
      let g = micro-agree (held-agree 8 held (omega (arith, many)) (omega arith)) (omega arith) in
      refuse-now n 7 (base joined + 7) stood
      (next-seven joined t start fits few sound (omega (arith, many)) (omega arith))
      (omega arith) rs (rp ∙ omega (arith, place-now, u.many)) hushed

  pub front-bad-size : (n : ℕ) (piece : List ℕ) → 12 ≤ s.at + length t → microseconds k' ≤ 999999 →
      65535 < stored_length k' → r.status ≡ 8 → r.place ≡ s.fed + 11 - s.at →
      Passed k' (record { taken = n; walk = r; event = Refused }) piece joined (joined ++ t)
  front-bad-size n piece e m h rs rp =
      let f = micro-agree (held-agree 8 held (omega (arith, many)) (omega arith)) (omega arith) in
      let g = stored-agree (held-agree 12 held (omega (arith, many)) (omega arith)) (omega arith) in
      refuse-now n 8 (base joined + 11) stood
      (next-eight joined t start fits few sound (omega (arith, many)) (omega arith) (omega arith))
      (omega arith)
      rs
      (rp ∙ omega (arith, place-now, u.many))
      hushed
