-- Bytes of the file header: what the walk stands for behind them.
use Prim.{tt}
use Rattle.std.proofs.Common.{◌≡◌, ℕ, ◌+◌, ◌<◌, ◌≤◌, Bool, true, false, List, [], ◌++◌, length, sym, refl, ◌∙◌, arith}
use Rattle.std.proofs.Common.{length-append, eq-eqb, ne_eqb}
use native.Mathlib.Decide.{dec_lt, ℕ_discrete}
use Rattle.rules.specs.Bytes.{word32, count}
use Rattle.rules.specs.Refusals.{none}
use Rattle.rules.specs.Packets.{skipped}
use Rattle.rules.specs.Capture.{earlier, is_magic, wrong_magic, wrong_link}
use Rattle.capture_laws.proofs.Onward.{header-alone}
use Rattle.capture_laws.proofs.Flow.{reached}
use Rattle.capture_laws.proofs.Format.{magic-more, magic-early, link-early, magic-shown, link-shown, reached-none}
use Rattle.capture_cells.proofs.Agree.{magic-agree, link-agree}
use Rattle.capture_steps.specs.declared.types.Walk.{Walk}
use Rattle.capture_steps.specs.declared.types.Event.TheVariants.{Nothing, Refused}
use Rattle.capture_steps.specs.Format.{format_fault}
use Rattle.capture_steps.specs.State.{Head, head, live}
use Rattle.capture_steps.specs.Contract.{Passed}
use Rattle.capture_laws.proofs.Format.{Sound, sound-of, header-shows}
use Rattle.capture_steps.proofs.Lists.{shown-same, gains-none}
use Rattle.capture_steps.proofs.Front.{Placed, Held, held-agree, held_more}
use Rattle.capture_steps.proofs.Pieces.{refuse-now}

none-skipped : skipped [] ≡ 0
unfolding skipped count
none-skipped = refl

module _ {k : List ℕ} {s : Walk} {joined : List ℕ} (u : Head k s joined) (k' : List ℕ) (r : Walk) (t : List ℕ) (n : ℕ)
    (piece : List ℕ) (some : 0 < length t)
    (pl : Placed k s.fed t k') (upto : s.fed < 4 → s.fed + length t ≤ 4) (most : s.fed + length t ≤ 24) where
  a : List ℕ
  a = joined ++ t

  size : length a ≡ s.fed + length t
  unfolding a
  size = let l = length-append joined t in let f = u.fed in omega arith

  held : Held k' a
  unfolding a
  held = held_more {k = k} {r = joined} {t = t} (record { held = λ i x y. u.bytes i x }) (rw (← u.fed) pl)

  sound : Sound joined
  sound = sound-of joined u.clear

  stood : length k' ≡ 64
  stood = pl.size ∙ u.room

  shows : format_fault a ≡ earlier (wrong_magic a) (wrong_link a)
  shows = header-shows a (omega (arith, size))

  magic-kept : 4 ≤ s.fed → wrong_magic a ≡ none
  unfolding a
  magic-kept h = magic-more joined t (omega (arith, u.fed)) ∙ sound.magic

  no-link : s.fed + length t < 24 → wrong_link a ≡ none
  no-link h = link-early a (omega (arith, size))

  nothing : (d : ℕ) → 0 < d → d ≤ 188 → reached d a ≡ reached d joined
  nothing d p q =
      reached-none a (omega (arith, size)) d p q ∙ sym (reached-none joined (omega (arith, u.short)) d p q)

  module _ (rs : r.status ≡ s.status) (rf : r.fed ≡ s.fed + length t) (ra : r.at ≡ s.at)
      (rn : r.frames ≡ s.frames) (rk : r.skipped ≡ s.skipped) where
    head-on : format_fault a ≡ none → s.fed + length t < 24 →
        Passed k' (record { taken = n; walk = r; event = Nothing }) piece joined a
    head-on c l =
        record {
          stands =
              head
              (record {
                room = stood;
                status = rs ∙ u.status;
                clear = c;
                fed = rf ∙ sym size;
                short = omega (arith, size);
                frames = rn ∙ u.frames;
                skipped = rk ∙ u.skipped;
                many = ra ∙ u.many;
                bytes = λ i h. held.held i h (omega (arith, size));
              });
          tells = gains-none c (nothing 4 (omega arith) (omega arith)) (nothing 188 (omega arith) (omega arith));
          calm = tt;
        }

    -- the header is whole
    head_done : format_fault a ≡ none → s.fed + length t ≡ 24 →
        Passed k' (record { taken = n; walk = r; event = Nothing }) piece joined a
    head_done c l =
        record {
          stands =
              live (omega (arith, size))
              (rw ((header-alone a (omega (arith, size))).0, (header-alone a (omega (arith, size))).1)
              (record {
                room = stood;
                status = rs ∙ u.status;
                clear = c;
                fed = rf ∙ sym size;
                frames = rn ∙ u.frames;
                skipped = rk ∙ u.skipped ∙ sym none-skipped;
                many = ra ∙ u.many;
                size = λ x. absurd (omega arith);
                bytes = λ i x y. absurd (omega arith);
                under = λ x. absurd (omega arith);
              }));
          tells = gains-none c (nothing 4 (omega arith) (omega arith)) (nothing 188 (omega arith) (omega arith));
          calm = tt;
        }

    file-plain : (s.fed + length t ≡ 4 → ⊥) → (s.fed + length t ≡ 24 → ⊥) →
        Passed k' (record { taken = n; walk = r; event = Nothing }) piece joined (joined ++ t)
    unfolding a
    file-plain x y = go (dec_lt s.fed 4)
      where
        l : s.fed + length t < 24
        l = omega (arith, y)

        go : Dec (s.fed < 4) → Passed k' (record { taken = n; walk = r; event = Nothing }) piece joined a
        go (yes d) = let f = upto d in head-on (shows ∙ rw (magic-early a (omega (arith, size, x)), no-link l)) l
        go (no d) = head-on (shows ∙ rw (magic-kept (omega arith), no-link l)) l

    file-magic : s.fed + length t ≡ 4 → is_magic k' ≡ true →
        Passed k' (record { taken = n; walk = r; event = Nothing }) piece joined (joined ++ t)
    unfolding a
    file-magic l e =
        let m : is_magic a ≡ true =
        sym (magic-agree (held-agree 4 held (omega (arith, size)) (omega arith)) (omega arith)) ∙ e in
        head-on (shows ∙ rw (magic-shown a (omega (arith, size)), m, no-link (omega arith))) (omega arith)

    file-link : s.fed + length t ≡ 24 → word32 k' 20 ≡ 1 →
        Passed k' (record { taken = n; walk = r; event = Nothing }) piece joined (joined ++ t)
    unfolding a
    file-link l e =
        let g = link-agree (held-agree 24 held (omega (arith, size)) (omega arith)) (omega arith) in
        let m = eq-eqb (word32 a 20) 1 (sym g ∙ e) in
        head_done (shows ∙ rw (magic-kept later, link-shown a (omega (arith, size)), m)) l
      where
        later : 4 ≤ s.fed
        later = elim (dec_lt s.fed 4) [
          | yes d ↦ let f = upto d in absurd (omega arith)
          | no d ↦ omega arith
        ]

    -- the magic is right where it ends here, and so is the link type
    pub file-on : (s.fed + length t ≡ 4 → is_magic k' ≡ true) → (s.fed + length t ≡ 24 → word32 k' 20 ≡ 1) →
        Passed k' (record { taken = n; walk = r; event = Nothing }) piece joined (joined ++ t)
    file-on m l = elim (ℕ_discrete (s.fed + length t) 4) [
      | yes e ↦ file-magic e (m e)
      | no x ↦ elim (ℕ_discrete (s.fed + length t) 24) [
        | yes e ↦ file-link e (l e)
        | no y ↦ file-plain x y
      ]
    ]

  pub file-bad-magic : {b : Bool} → s.fed + length t ≡ 4 → b ≡ is_magic k' → b ≡ false → r.status ≡ 5 → r.place ≡ 3 →
      Passed k' (record { taken = n; walk = r; event = Refused }) piece joined (joined ++ t)
  unfolding a
  file-bad-magic l e f rs rp =
      let m : is_magic a ≡ false =
      sym (magic-agree (held-agree 4 held (omega (arith, size)) (omega arith)) (omega arith)) ∙ sym e ∙ f in
      refuse-now n 5 3 stood (shows ∙ rw (magic-shown a (omega (arith, size)), m, no-link (omega arith)))
      (omega arith) rs rp (shown-same joined a (nothing 4 (omega arith) (omega arith)))

  pub file-bad-link : s.fed + length t ≡ 24 → (word32 k' 20 ≡ 1 → ⊥) → r.status ≡ 6 → r.place ≡ 23 →
      Passed k' (record { taken = n; walk = r; event = Refused }) piece joined (joined ++ t)
  unfolding a
  file-bad-link l e rs rp =
      let g = link-agree (held-agree 24 held (omega (arith, size)) (omega arith)) (omega arith) in
      let m = ne_eqb (word32 a 20) 1 (λ x. e (g ∙ x)) in
      refuse-now n 6 23 stood (shows ∙ rw (magic-kept later, link-shown a (omega (arith, size)), m))
      (omega arith) rs rp (shown-same joined a (nothing 4 (omega arith) (omega arith)))
    where
      later : 4 ≤ s.fed
      later = elim (dec_lt s.fed 4) [
        | yes d ↦ let f = upto d in absurd (omega arith)
        | no d ↦ omega arith
      ]
