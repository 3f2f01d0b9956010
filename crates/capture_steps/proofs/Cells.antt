-- Bytes behind a frame's first 58: of a cell, of a run of cells, and behind the cells. What the walk stands for
-- behind them, and what they bring.
use Prim.{tt}
use Rattle.std.proofs.Common.{◌≡◌, ℕ, suc, ◌+◌, ◌-◌, ◌*◌, ◌%◌, ◌^◌, ◌<◌, ◌≤◌, leb, List, [], ◌∷◌, ◌++◌, map, length}
use Rattle.std.proofs.Common.{get_or, take, drop, sym, refl, ap, ◌∙◌, append_assoc, append-nil, arith, length-append}
use Rattle.std.proofs.Common.{length-drop, drop_of_length-le, get_or-drop}
use Rattle.std.proofs.Common.{get_or-append-add}
use native.Mathlib.Decide.{dec_lt}
use lib.ListN.{get_or-append}
use lib.Seq.{drop-append-le}
use Rattle.rules.specs.Bytes.{byte}
use Rattle.rules.specs.Refusals.{none}
use Rattle.rules.specs.Frames.{stored_length, frame_size, frame_time}
use Rattle.rules.specs.Packets.{Packet, packets_from, packets_of, packets}
use Rattle.rules.specs.Capture.{whole_frames, unfinished}
use Rattle.capture_laws.specs.UnderWay.{Split, current, Fine}
use Rattle.rules.proofs.Laws.Lists.{only-append}
use Rattle.capture_laws.proofs.Frames.{size-append}
use Rattle.capture_laws.proofs.Onward.{base, base_sum, unfinished-short, count-more, time-more, roomy}
use Rattle.capture_laws.proofs.Onward.{of-from, from-split, from-done, from-whole, from-short, layout-more}
use Rattle.capture_laws.proofs.Flow.{reached, passed, packet_at, now_short, more-short, now-done}
use Rattle.capture_laws.proofs.Flow.{more-done, now-first, more-first}
use Rattle.capture_cells.specs.declared.Cell.{Cell}
use Rattle.capture_cells.specs.Cells.{Agree, head, head_in, cell_in, cell_of}
use Rattle.capture_cells.proofs.Agree.{agree-more, time-agree, head-agree, cell_agree}
use Rattle.capture_steps.specs.declared.types.Walk.{Walk}
use Rattle.capture_steps.specs.declared.types.Event.TheVariants.{Nothing, Shown, Whole, Cells}
use Rattle.capture_steps.specs.Format.{format_fault, head_of, cells_from}
use Rattle.capture_steps.specs.State.{Under, Core, Stands}
use Rattle.capture_steps.specs.Contract.{Collects, Taken, Settles, Gains, Level, Passed}
use Rattle.capture_laws.proofs.Format.{Sound, sound-of, fine-now, next-none}
use Rattle.capture_steps.proofs.Lists.{from-cells, cells_cut, gains-none, gains-shown, gains-same, gains-whole}
use Rattle.capture_steps.proofs.Lists.{gains-many, level}
use Rattle.capture_steps.proofs.Fits.{fits-skip, size_is, stored_more, fine-skip}
use Rattle.capture_steps.proofs.Front.{Held, held-agree}
use Rattle.capture_steps.proofs.Ends.{goes_on}

as-suc : {r : List ℕ} {k m : ℕ} → 0 < m → Split r k m → Split r k (suc (m - 1))
as-suc h p = record { there = p.there; count = let e = p.count in omega arith; past = p.past }

-- ---- collected bytes of a cell: of those of t, the ones among its first six

pub record Gathered (k : List ℕ) (got : ℕ) (t k' : List ℕ) : Type 0 where
  pub size : length k' ≡ length k
  pub new : (i : ℕ) → i < length t → got + i < 6 → get_or k' (58 + (got + i)) 0 ≡ byte t i
  pub below : (j : ℕ) → j < 58 + got → get_or k' j 0 ≡ get_or k j 0

pub gathered : {k k' t : List ℕ} {got : ℕ} → length k ≡ 64 → Collects k got t k' → Gathered k got t k'
gathered l c = record { size = c.size; new = c.new l; below = c.below }

-- ---- m cells that are there at once, behind k others

module _ (d : ℕ) (some : 0 < d) (small : d ≤ 188) (s t : List ℕ) (h : 24 ≤ length s)
    (fits : length (unfinished s ++ t) ≤ frame_size (unfinished s ++ t))
    (k m l : ℕ) (p : Split (unfinished s) k (m + l)) (at : length (unfinished s) ≡ 58 + 188 * k)
    (many : length t ≡ 188 * m) where
  abbrev r : List ℕ
  r = unfinished s

  abbrev τ : ℕ
  τ = frame_time r

  abbrev pl : ℕ
  pl = base s + 58

  front : 188 * k ≤ length (drop 58 r)
  front = simp length-drop (omega arith)

  behind : drop (188 * k) (drop 58 r ++ t) ≡ t
  behind =
      let e : length (drop 58 r) ≤ 188 * k = simp length-drop (omega arith) in
      drop-append-le (188 * k) (drop 58 r) t front ∙ rw (drop_of_length-le (drop 58 r) {i = 188 * k} e)

  all : packets_of (base s) (r ++ t) ≡ packets_from k τ pl (drop 58 r)
      ++ (packets_from m τ (pl + 188 * k) t ++ packets_from l τ (pl + 188 * k + 188 * m) [])
  all =
      rw (
        of-from (base s) (r ++ t),
        count-more r t p.there,
        time-more r t p.there,
        drop-append-le 58 r t p.there,
        ← p.count,
        from-split k (m + l) τ pl (drop 58 r ++ t),
        from-done k τ pl (drop 58 r) t front,
        behind,
        from-split m l τ (pl + 188 * k) t,
        drop_of_length-le t {i = 188 * m} (omega arith),
      )

  pub run-reached : reached d (s ++ t) ≡ passed s k ++ packets_from m τ (pl + 188 * k) t
  unfolding passed
  run-reached =
      layout-more d some small s t h fits
      ∙ rw (
        all,
        only-append (λ (x : Packet). leb d (length x.bytes)) (packets_from k τ pl (drop 58 r))
            (packets_from m τ (pl + 188 * k) t ++ packets_from l τ (pl + 188 * k + 188 * m) []),
        only-append (λ (x : Packet). leb d (length x.bytes)) (packets_from m τ (pl + 188 * k) t)
            (packets_from l τ (pl + 188 * k + 188 * m) []),
        from-whole d small k τ pl (drop 58 r) front,
        from-whole d small m τ (pl + 188 * k) t (omega arith),
        from-short d small l τ (pl + 188 * k + 188 * m) [] (omega arith),
        append-nil (packets_from m τ (pl + 188 * k) t),
        append_assoc (packets 24 (whole_frames s)) (packets_from k τ pl (drop 58 r))
            (packets_from m τ (pl + 188 * k) t),
      )

module _ {k : List ℕ} {s : Walk} {joined : List ℕ} (start : 24 ≤ length joined)
    (u : Core k s (whole_frames joined) (unfinished joined) joined) (far : 58 ≤ s.at)
    (v : Under k s (unfinished joined)) where
  there : 58 ≤ length (unfinished joined)
  there = let m = u.many in omega arith

  abbrev b : ℕ
  b = v.behind

  sound : Sound joined
  sound = sound-of joined u.clear

  fine : Fine (unfinished joined)
  fine = fine-now start sound

  abbrev cur : List ℕ
  cur = current (unfinished joined) b

  pub known : (s.size ≡ stored_length (unfinished joined)) × (s.size ≤ 65535) × (s.at < 16 + s.size)
  known =
      let m = u.many in
      let e = u.size (omega arith) in
      let f = fine.size (omega arith) in
      let l = unfinished-short joined in
      let i = size_is (unfinished joined) in
      (e, omega arith, omega arith)

  -- the cells that are left end within the frame
  inside : 0 < s.left → 58 + 188 * (b + s.left) ≤ frame_size (unfinished joined)
  inside h =
      let c = v.split.count in
      let r = roomy (unfinished joined) (omega arith) in
      omega arith

  cur-length : 0 < s.left → length cur ≡ s.got
  cur-length h = let l = length-drop (58 + 188 * b) (unfinished joined) in let g = v.going h in omega arith

  pub got-part : 0 < s.left → s.got < 188
  got-part h = v.part h

  place-now : base joined + length (unfinished joined) ≡ s.fed
  place-now = base_sum joined start ∙ sym u.fed

  pub got-fed : 0 < s.left → s.got ≤ s.fed
  got-fed h = let p = place-now in let g = v.going h in omega arith

  -- ---- bytes more, of which none is collected among the first 58

  module _ (t k' : List ℕ) (r : Walk) (room : s.fed + length t ≤ 268435456)
      (fits : length (unfinished joined) + length t ≤ frame_size (unfinished joined))
      (size : length k' ≡ length k) (same : (i : ℕ) → i < 58 → get_or k' i 0 ≡ get_or k i 0) where
    fits-now : length (unfinished joined ++ t) ≤ frame_size (unfinished joined ++ t)
    fits-now = fits-skip (unfinished joined) t (omega (arith, there)) fits

    fine_more : Fine (unfinished joined ++ t)
    fine_more = fine-skip (unfinished joined) t (omega (arith, there)) fine

    clear-more : format_fault (joined ++ t) ≡ none
    clear-more = next-none joined t start fits-now (let l = length-append joined t in let m = u.fed in omega arith)
        sound fine_more

    cur-more : current (unfinished joined ++ t) b ≡ cur ++ t
    cur-more = drop-append-le (58 + 188 * b) (unfinished joined) t v.split.past

    split-more : Split (unfinished joined ++ t) b s.left
    split-more =
        let l = length-append (unfinished joined) t in
        let e = v.split.past in
        record {
          there = omega (arith, there);
          count = v.split.count ∙ sym (count-more (unfinished joined) t there);
          past = omega arith;
        }

    held : Held k' (unfinished joined)
    held = record { held = λ i h x. same i x ∙ u.bytes i h x }

    time-held : frame_time k' ≡ frame_time (unfinished joined)
    time-held = time-agree (held-agree 58 held there (omega arith)) (omega arith)

    taken : r.status ≡ s.status → r.fed ≡ s.fed + length t → r.at ≡ s.at + length t → r.size ≡ s.size →
        r.frames ≡ s.frames → r.skipped ≡ s.skipped →
        Under k' r (unfinished joined ++ t) → Taken k' r joined t
    taken rs rf ra rz rn rk un =
        record {
          start = start;
          fits = fits-now;
          fine = fine_more;
          core = record {
            room = size ∙ u.room;
            status = rs ∙ u.status;
            clear = clear-more;
            fed = let l = length-append joined t in let m = u.fed in omega arith;
            frames = rn ∙ u.frames;
            skipped = rk ∙ u.skipped;
            many = let l = length-append (unfinished joined) t in let m = u.many in omega arith;
            size = λ h. rz ∙ u.size (omega (arith, there))
                ∙ sym (stored_more (unfinished joined) t (omega (arith, there)));
            bytes = λ i h x.
                let d : i < length (unfinished joined) = omega (arith, there) in
                held.held i d x ∙ sym (get_or-append (unfinished joined) t 0 i d);
            under = λ h. un;
          };
        }

  -- ---- bytes behind the cells

  module _ (t : List ℕ) (r : Walk) (room : s.fed + length t ≤ 268435456)
      (fits : length (unfinished joined) + length t ≤ frame_size (unfinished joined)) (z : s.left ≡ 0) where
    split_done : Split (unfinished joined) b 0
    split_done = record { there = there; count = let e = v.split.count in omega arith; past = v.split.past }

    quiet : (d : ℕ) → 0 < d → d ≤ 188 → reached d (joined ++ t) ≡ reached d joined
    quiet d p q = more-done d p q joined start b split_done t (fits-now t k r room fits refl (λ i x. refl))
        ∙ sym (now-done d p q joined start b split_done)

    tail-gains : Gains joined (joined ++ t) [] []
    tail-gains = gains-none (clear-more t k r room fits refl (λ i x. refl)) (quiet 4 (omega arith) (omega arith))
        (quiet 188 (omega arith) (omega arith))

    tail-taken : r.status ≡ s.status → r.fed ≡ s.fed + length t → r.at ≡ s.at + length t → r.size ≡ s.size →
        r.left ≡ s.left → r.frames ≡ s.frames →
        r.skipped ≡ s.skipped → Taken k r joined t
    tail-taken rs rf ra rz rl rn rk =
        taken t k r room fits refl (λ i x. refl) rs rf ra rz rn rk
        (record {
          behind = b;
          split = rw rl (split-more t k r room fits refl (λ i x. refl));
          going = λ h. absurd (omega arith);
          part = λ h. absurd (omega arith);
          first = λ h i x y. absurd (omega arith);
        })

    pub tail-stood : (n : ℕ) (piece : List ℕ) (w : Walk) → Settles k r w → r.status ≡ s.status →
        r.fed ≡ s.fed + length t → r.at ≡ s.at + length t → r.size ≡ s.size →
        r.left ≡ s.left → r.frames ≡ s.frames → r.skipped ≡ s.skipped →
        Passed k (record { taken = n; walk = w; event = Nothing }) piece joined (joined ++ t)
    tail-stood n piece w st rs rf ra rz rl rn rk =
        record { stands = st joined t (tail-taken rs rf ra rz rl rn rk); tells = tail-gains; calm = tt }

  -- ---- a run of cells, none being under way

  module _ (t : List ℕ) (r : Walk) (m : ℕ) (room : s.fed + length t ≤ 268435456) (none_yet : s.got ≡ 0)
      (some : 0 < m) (most : m ≤ s.left) (long : length t ≡ 188 * m) where
    fits-run : length (unfinished joined) + length t ≤ frame_size (unfinished joined)
    fits-run = let i = inside (omega arith) in let g = v.going (omega arith) in omega arith

    split-run : Split (unfinished joined) b (m + (s.left - m))
    split-run = record { there = there; count = let e = v.split.count in omega arith; past = v.split.past }

    at-cell : length (unfinished joined) ≡ 58 + 188 * b
    at-cell = v.going (omega arith) ∙ omega arith

    before : (d : ℕ) → 0 < d → d ≤ 188 → reached d joined ≡ passed joined b
    before d p q = now_short d p q joined start b s.left v.split (omega (arith, cur-length (omega arith)))

    abbrev new : List Packet
    new = packets_from m (frame_time (unfinished joined)) (base joined + 58 + 188 * b) t

    after : (d : ℕ) → 0 < d → d ≤ 188 → reached d (joined ++ t) ≡ passed joined b ++ new
    after d p q = run-reached d p q joined t start (fits-now t k r room fits-run refl (λ i x. refl)) b m
        (s.left - m) split-run at-cell long

    run-gains : (x : List ℕ) (time place : ℕ) → time ≡ frame_time k → place ≡ s.fed →
        cells_from m (frame_time (unfinished joined)) s.fed t
        ≡ cells_from m (frame_time (unfinished joined)) s.fed x →
        Gains joined (joined ++ t) (map head (cells_from m time place x)) (cells_from m time place x)
    run-gains x time place e f g =
        let h = time-held t k r room fits-run refl (λ i y. refl) in
        let p : base joined + 58 + 188 * b ≡ s.fed = omega (arith, place-now, at-cell) in
        gains-many (clear-more t k r room fits-run refl (λ i y. refl)) (passed joined b) new
        (cells_from m time place x)
        (from-cells m (frame_time (unfinished joined)) (base joined + 58 + 188 * b) t ∙ rw (p, e, f, h) g)
        (before 4 (omega arith) (omega arith))
        (before 188 (omega arith) (omega arith))
        (after 4 (omega arith) (omega arith))
        (after 188 (omega arith) (omega arith))

    run-level : Level joined
    run-level = level joined (passed joined b) (before 4 (omega arith) (omega arith))
        (before 188 (omega arith) (omega arith))

    run-taken : r.status ≡ s.status → r.fed ≡ s.fed + length t → r.at ≡ s.at + length t → r.size ≡ s.size →
        r.got ≡ s.got → r.left ≡ s.left - m →
        r.frames ≡ s.frames → r.skipped ≡ s.skipped → Taken k r joined t
    run-taken rs rf ra rz rg rl rn rk =
        let c = split-more t k r room fits-run refl (λ i y. refl) in
        let cc' = c.count in
        let l = length-append (unfinished joined) t in
        let a = at-cell in
        taken t k r room fits-run refl (λ i y. refl) rs rf ra rz rn rk
        (record {
          behind = b + m;
          split = record { there = c.there; count = omega arith; past = omega arith };
          going = λ h. omega arith;
          part = λ h. omega arith;
          first = λ h i x y. absurd (omega arith);
        })

    pub run-stood : {time : ℕ} (n : ℕ) (piece : List ℕ) (i : ℕ) (w : Walk) → Settles k r w →
        t ≡ take (188 * m) (drop i piece) → i + 188 * m ≤ length piece → time ≡ frame_time k →
        r.status ≡ s.status → r.fed ≡ s.fed + length t → r.at ≡ s.at + length t → r.size ≡ s.size →
        r.got ≡ s.got → r.left ≡ s.left - m → r.frames ≡ s.frames →
        r.skipped ≡ s.skipped →
        Passed k (record {
          taken = n;
          walk = w;
          event = Cells (record { at = i; many = m; time = time; place = s.fed });
        }) piece joined (joined ++ t)
    run-stood {time} n piece i w st te il ti rs rf ra rz rg rl rn rk =
        record {
          stands = st joined t (run-taken rs rf ra rz rg rl rn rk);
          tells = (
            run-gains (drop i piece) time s.fed ti refl
                (rw te (cells_cut m (frame_time (unfinished joined)) s.fed (drop i piece)
                (simp length-drop (omega arith)))),
            run-level,
          );
          calm = tt;
        }

  -- ---- bytes that do not pass the end of the cell under way

  module _ (k' : List ℕ) (r : Walk) (t : List ℕ) (ga : Gathered k s.got t k') (room : s.fed + length t ≤ 268435456)
      (some : 0 < s.left) (within : s.got + length t ≤ 188) where
    fits-t : length (unfinished joined) + length t ≤ frame_size (unfinished joined)
    fits-t = let i = inside some in let g = v.going some in omega arith

    same : (i : ℕ) → i < 58 → get_or k' i 0 ≡ get_or k i 0
    same i h = ga.below i (omega arith)

    fits_on : length (unfinished joined ++ t) ≤ frame_size (unfinished joined ++ t)
    fits_on = fits-now t k' r room fits-t ga.size same

    clear-t : format_fault (joined ++ t) ≡ none
    clear-t = clear-more t k' r room fits-t ga.size same

    cur-t : length (cur ++ t) ≡ s.got + length t
    cur-t = let l = length-append cur t in let c = cur-length some in omega arith

    first-held : (i : ℕ) → i < s.got + length t → i < 6 → get_or k' (58 + i) 0 ≡ byte (cur ++ t) i
    first-held i h x = elim (dec_lt i s.got) [
      | yes d ↦
          ga.below (58 + i) (omega arith) ∙ v.first some i d x
          ∙ sym (get_or-append cur t 0 i (omega (arith, cur-length some)))
      | no d ↦
          let j : ℕ = i - s.got in
          let c = cur-length some in
          let e : s.got + j ≡ i = omega arith in
          let f : length cur + j ≡ i = omega arith in
          let g : byte (cur ++ t) i ≡ byte t j = ap (byte (cur ++ t)) (sym f) ∙ get_or-append-add cur t j 0 in
          ap (λ (x : ℕ). get_or k' (58 + x) 0) (sym e) ∙ ga.new j (omega arith) (omega arith) ∙ sym g
    ]

    agree-cell : (n : ℕ) → n ≤ 6 → n ≤ s.got + length t → Agree n (drop 58 k') (cur ++ t)
    agree-cell n h g = record { bytes = λ i x. get_or-drop 58 k' i 0 ∙ first-held i (omega arith) (omega arith) }

    goes-t : s.got + length t < 188 → r.status ≡ s.status → r.fed ≡ s.fed + length t → r.at ≡ s.at + length t →
        r.size ≡ s.size → r.got ≡ s.got + length t →
        r.left ≡ s.left → r.frames ≡ s.frames → r.skipped ≡ s.skipped → Stands k' r (joined ++ t)
    goes-t less rs rf ra rz rg rl rn rk =
        goes_on
        (taken t k' r room fits-t ga.size same rs rf ra rz rn rk
        (record {
          behind = b;
          split = rw rl (split-more t k' r room fits-t ga.size same);
          going = λ h. let l = length-append (unfinished joined) t in let g = v.going some in omega arith;
          part = λ h. omega arith;
          first = λ h i x y. rw (cur-more t k' r room fits-t ga.size same) (first-held i (omega arith) y);
        }))
        (let e = inside some in let g = v.going some in let l = length-append (unfinished joined) t in
        let z = size-append (unfinished joined) t (omega (arith, there)) in omega arith)

    place-cell : base joined + 58 + 188 * b + s.got ≡ s.fed
    place-cell = let g = v.going some in let p = place-now in omega arith

    time-t : frame_time k' ≡ frame_time (unfinished joined)
    time-t = time-held t k' r room fits-t ga.size same

    abbrev q : Packet
    q = packet_at joined b (cur ++ t)

    -- of which fewer than four were there
    module _ (early : s.got < 4) (less : s.got + length t < 188) where
      passed-d : (d : ℕ) → 4 ≤ d → d ≤ 188 → reached d joined ≡ passed joined b
      passed-d d p l = now_short d (omega arith) l joined start b s.left v.split (omega (arith, cur-length some))

      still : (d : ℕ) → 0 < d → d ≤ 188 → s.got + length t < d → reached d (joined ++ t) ≡ reached d joined
      still d p l h =
          more-short d p l joined start b s.left v.split t fits_on (omega (arith, cur-t))
          ∙ sym (now_short d p l joined start b s.left v.split (omega (arith, cur-length some)))

      pub cell-early : (n : ℕ) (piece : List ℕ) → s.got + length t < 4 → r.status ≡ s.status →
          r.fed ≡ s.fed + length t → r.at ≡ s.at + length t → r.size ≡ s.size →
          r.got ≡ s.got + length t → r.left ≡ s.left → r.frames ≡ s.frames → r.skipped ≡ s.skipped →
          Passed k' (record { taken = n; walk = r; event = Nothing }) piece joined (joined ++ t)
      cell-early n piece few rs rf ra rz rg rl rn rk =
          record {
            stands = goes-t (omega arith) rs rf ra rz rg rl rn rk;
            tells = gains-none clear-t (still 4 (omega arith) (omega arith) (omega arith))
                (still 188 (omega arith) (omega arith) (omega arith));
            calm = tt;
          }

      pub cell-shown : (n : ℕ) (piece : List ℕ) (c : Cell) → 4 ≤ s.got + length t →
          c ≡ head_in (frame_time k') (s.fed - s.got) (drop 58 k') → r.status ≡ s.status →
          r.fed ≡ s.fed + length t → r.at ≡ s.at + length t → r.size ≡ s.size → r.got ≡ s.got + length t →
          r.left ≡ s.left → r.frames ≡ s.frames →
          r.skipped ≡ s.skipped →
          Passed k' (record { taken = n; walk = r; event = Shown c }) piece joined (joined ++ t)
      cell-shown n piece c four ce rs rf ra rz rg rl rn rk =
          record {
            stands = goes-t (omega arith) rs rf ra rz rg rl rn rk;
            tells = (
              rw is-q
                  (gains-shown clear-t (passed joined b) q (passed-d 4 (omega arith) (omega arith))
                  (passed-d 188 (omega arith) (omega arith)) shown-now
                  (still 188 (omega arith) (omega arith) (omega arith))),
              level joined (passed joined b) (passed-d 4 (omega arith) (omega arith))
                  (passed-d 188 (omega arith) (omega arith)),
            );
            calm = tt;
          }
        where
          shown-now : reached 4 (joined ++ t) ≡ passed joined b ++ q ∷ []
          shown-now =
              more-first 4 (omega arith) (omega arith) joined start b (s.left - 1) (as-suc some v.split) t fits_on
              (omega (arith, cur-t)) (omega (arith, cur-t))

          is-q : c ≡ head_of q
          is-q =
              let p : s.fed - s.got ≡ base joined + 58 + 188 * b = omega (arith, place-cell) in
              ce ∙ rw (time-t, p)
              (head-agree (agree-cell 4 (omega arith) (omega arith)) (omega arith) (frame_time (unfinished joined))
              (base joined + 58 + 188 * b))

    -- behind them
    module _ (late : 4 ≤ s.got) where
      shown-t : reached 4 (joined ++ t) ≡ passed joined b ++ q ∷ []
      shown-t =
          more-first 4 (omega arith) (omega arith) joined start b (s.left - 1) (as-suc some v.split) t fits_on
          (omega (arith, cur-t)) (omega (arith, cur-t))

      shown-old : reached 4 joined ≡ passed joined b ++ packet_at joined b cur ∷ []
      shown-old =
          now-first 4 (omega arith) (omega arith) joined start b (s.left - 1) (as-suc some v.split)
          (omega (arith, cur-length some)) (omega (arith, cur-length some, v.part some))

      head-same : head_of q ≡ head_of (packet_at joined b cur)
      head-same =
          head-agree (agree-more 4 cur t (omega (arith, cur-length some))) (omega arith)
          (frame_time (unfinished joined)) (base joined + 58 + 188 * b)

      passed-now : reached 188 joined ≡ passed joined b
      passed-now = now_short 188 (omega arith) (omega arith) joined start b s.left v.split
          (omega (arith, cur-length some, v.part some))

      -- it goes on
      pub cell-on : (n : ℕ) (piece : List ℕ) → s.got + length t < 188 → r.status ≡ s.status →
          r.fed ≡ s.fed + length t → r.at ≡ s.at + length t → r.size ≡ s.size →
          r.got ≡ s.got + length t → r.left ≡ s.left → r.frames ≡ s.frames → r.skipped ≡ s.skipped →
          Passed k' (record { taken = n; walk = r; event = Nothing }) piece joined (joined ++ t)
      cell-on n piece less rs rf ra rz rg rl rn rk =
          record {
            stands = goes-t less rs rf ra rz rg rl rn rk;
            tells =
                gains-same clear-t (passed joined b) (packet_at joined b cur) q head-same shown-old shown-t
                (more-short 188 (omega arith) (omega arith) joined start b s.left v.split t fits_on
                (omega (arith, cur-t)) ∙ sym passed-now);
            calm = tt;
          }

      -- it is whole
      module _ (full : s.got + length t ≡ 188) where
        whole-now : reached 188 (joined ++ t) ≡ passed joined b ++ q ∷ []
        whole-now =
            more-first 188 (omega arith) (omega arith) joined start b (s.left - 1) (as-suc some v.split) t fits_on
            (omega (arith, cur-t)) (omega (arith, cur-t))

        cell-gains : (c : Cell) (time place : ℕ) → c ≡ cell_in time place (drop 58 k') → time ≡ frame_time k' →
            place + 188 ≡ s.fed + length t →
            Gains joined (joined ++ t) [] (c ∷ []) × Level (joined ++ t)
        cell-gains c time place ce te pe = (
          rw is-q (gains-whole clear-t (passed joined b) (packet_at joined b cur)
              q head-same shown-old shown-t passed-now whole-now),
          level (joined ++ t) (passed joined b ++ q ∷ []) shown-t whole-now,
        )
          where
            is-q : c ≡ cell_of q
            is-q =
                let p : place ≡ base joined + 58 + 188 * b = omega (arith, place-cell) in
                ce ∙ rw (te, time-t, p)
                (cell_agree (agree-cell 6 (omega arith) (omega arith)) (omega arith)
                (frame_time (unfinished joined)) (base joined + 58 + 188 * b))

        cell-taken : r.status ≡ s.status → r.fed ≡ s.fed + length t → r.at ≡ s.at + length t →
            r.size ≡ s.size → r.got ≡ 0 → r.left ≡ s.left - 1 →
            r.frames ≡ s.frames → r.skipped ≡ s.skipped → Taken k' r joined t
        cell-taken rs rf ra rz rg rl rn rk =
            let m = split-more t k' r room fits-t ga.size same in
            let c = m.count in
            let l = length-append (unfinished joined) t in
            let g = v.going some in
            taken t k' r room fits-t ga.size same rs rf ra rz rn rk
            (record {
              behind = b + 1;
              split = record { there = m.there; count = omega arith; past = omega arith };
              going = λ h. omega arith;
              part = λ h. omega arith;
              first = λ h i x y. absurd (omega arith);
            })

        pub cell-whole : (n : ℕ) (piece : List ℕ) (w : Walk) (c : Cell) (time place : ℕ) → Settles k' r w →
            c ≡ cell_in time place (drop 58 k') → time ≡ frame_time k' →
            place + 188 ≡ s.fed + length t → r.status ≡ s.status → r.fed ≡ s.fed + length t →
            r.at ≡ s.at + length t → r.size ≡ s.size → r.got ≡ 0 →
            r.left ≡ s.left - 1 → r.frames ≡ s.frames → r.skipped ≡ s.skipped →
            Passed k' (record { taken = n; walk = w; event = Whole c }) piece joined (joined ++ t)
        cell-whole n piece w c time place st ce te pe rs rf ra rz rg rl rn rk =
            record {
              stands = st joined t (cell-taken rs rf ra rz rg rl rn rk);
              tells = cell-gains c time place ce te pe;
              calm = tt;
            }

-- a sum that does not wrap
pub at-is : {at n size l x : ℕ} → size ≤ 65535 → at < 16 + size → n ≤ 65551 → l ≡ n → x ≡ (at + n) % 2 ^ 64 →
    x ≡ at + l
at-is a b c d e = omega arith

pub run_at : {at size x : ℕ} (n : ℕ) → size ≤ 65535 → at < 16 + size → n ≤ 268435456 → x ≡ (at + n) % 2 ^ 64 →
    x ≡ at + n
run_at n a b c e = omega arith
