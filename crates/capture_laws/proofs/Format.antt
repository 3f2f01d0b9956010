-- Refusals 4 to 8 of a capture that goes on, and that capture_fault is these and 9.
use Prim.Native.Nat.{ℕ, ◌+◌, ◌≤◌, ◌<◌}
use native.Mathlib.Omega.{arith}
use native.Mathlib.Decide.{dec_le}
use mathlib.Core.Path.{◌≡◌, refl, sym, ap, ◌∙◌}
use mathlib.Core.List.{List, [], ◌∷◌, ◌++◌, append_assoc}
use mathlib.Core.Bool.{Bool, true, false, not, ◌&&◌, and-false}
use lib.ListN.{length, length-append, get_or-append}
use lib.Dec.{leb, ltb, eqb}
use borrow.Author.Tests.{le-leb, lt-ltb, le-ltb, ltb-false}
use Rattle.rules.proofs.Laws.Lists.{by-test}
use Rattle.rules.specs.declared.Opening.{Opening}
use Rattle.rules.specs.Bytes.{pick, byte, word32, only, end_to_end, All, and, empty}
use Rattle.rules.specs.Refusals.{Fault, none, fault}
use Rattle.rules.specs.Frames.{microseconds, stored_length, frame_size}
use Rattle.rules.specs.Packets.{packets, wanted_of}
use Rattle.rules.specs.Units.{arrivals, beginnings}
use Rattle.rules.specs.Capture.{whole_frames, unfinished, all_frames, earlier, showing, too_long, is_magic}
use Rattle.rules.specs.Capture.{wrong_magic, wrong_link, wrong_frame_header, wrong_frame, too_many_units}
use Rattle.rules.specs.Capture.{format_fault}
use Rattle.rules.specs.Capture.{capture_fault}
use Rattle.capture_laws.specs.UnderWay.{Fine}
use Rattle.capture_laws.proofs.Frames.{size-least}
use Rattle.capture_laws.proofs.Capture.{too_long_lem}
use Rattle.capture_laws.proofs.Faults.{Late, late_none, late_fault, Grows, same, new, grows-kept, showing-none}
use Rattle.capture_laws.proofs.Faults.{earlier-grows, magic-grows, link-grows, frames-grow, format-grows}
use Rattle.capture_laws.proofs.Onward.{base, base_sum, Whole, frames-whole, whole_part, unfinished-part}
use Rattle.capture_laws.proofs.Onward.{whole-full, unfinished-full, header-alone, of_none, layout}
use Rattle.capture_laws.proofs.Flow.{reached, nine, nine-of}

never : {k p : ℕ} → fault k p ≡ none → ⊥
never e = let z : ◌≡◌ {A = ℕ} 0 1 = cc in omega arith

pub none_both : (f g : Fault) → earlier f g ≡ none → (f ≡ none) × (g ≡ none)
none_both none g h = (refl, h)
none_both (fault k p) none h = absurd (never h)
none_both (fault k p) (fault l q) h = absurd (go (leb p q) h)
  where
    go : (b : Bool) → pick b (fault k p) (fault l q) ≡ none → ⊥
    go true e = never e
    go false e = never e

earlier-none : (f : Fault) → earlier f none ≡ f
earlier-none none = refl
earlier-none (fault k p) = refl

-- ---- the rules' refusals are these and 9

pub capture-format : (o : Opening) (s : List ℕ) → capture_fault o s ≡ earlier (format_fault s) (too_many_units o s)
unfolding capture_fault
capture-format o s = refl

-- ---- a refusal stays

pub format-kept : (s t : List ℕ) (k p : ℕ) → format_fault s ≡ fault k p → format_fault (s ++ t) ≡ fault k p
format-kept s t k p h = grows-kept (format-grows s t) h

-- ---- none of the four stands

pub record Sound (s : List ℕ) : Type 0 where
  pub long : too_long s ≡ none
  pub magic : wrong_magic s ≡ none
  pub link : wrong_link s ≡ none
  pub frames : wrong_frame (length s) 24 (all_frames s) ≡ none

pub sound-of : (s : List ℕ) → format_fault s ≡ none → Sound s
unfolding format_fault
sound-of s h =
    let a = none_both (too_long s) _ h in
    let b = none_both (wrong_magic s) _ a.1 in
    let c = none_both (wrong_link s) (wrong_frame (length s) 24 (all_frames s)) b.1 in
    record { long = a.0; magic = b.0; link = c.0; frames = c.1 }

-- and there is no 751st unit
pub record Clear (o : Opening) (s : List ℕ) : Type 0 where
  pub sound : Sound s
  pub units : too_many_units o s ≡ none

pub clear_of : (o : Opening) (s : List ℕ) → capture_fault o s ≡ none → Clear o s
clear_of o s h =
    let b = none_both (format_fault s) (too_many_units o s) (sym (capture-format o s) ∙ h) in
    record { sound = sound-of s b.0; units = b.1 }

-- ---- 4

long-none : (s : List ℕ) → length s ≤ 268435456 → too_long s ≡ none
unfolding too_long
long-none s h = showing-none (length s) 0 4 268435456 true true h

pub long_of : (s : List ℕ) → too_long s ≡ none → length s ≤ 268435456
long_of s h = elim (dec_le (length s) 268435456) [
  | yes g ↦ g
  | no g ↦ absurd (never (sym (too_long_lem s (omega arith)) ∙ h))
]

grows-late : {n : ℕ} {f g : Fault} → Grows n f g → f ≡ none → Late n g
grows-late (same b) e = rw e late_none
grows-late (new l) e = l

four-first : (n : ℕ) {g : Fault} → Late n g → earlier (fault 4 n) g ≡ fault 4 n
four-first n late_none = refl
four-first n (late_fault {p = q} h) = rw (le-leb n q h)

-- at one byte 4 comes first
pub four : (s t : List ℕ) → Sound s → length s ≡ 268435456 → 0 < length t → format_fault (s ++ t) ≡ fault 4 268435456
unfolding format_fault
four s t c e h =
    let g = earlier-grows (magic-grows s t) (earlier-grows (link-grows s t) (frames-grow s t)) in
    let l = grows-late g (rw (c.magic, c.link, c.frames)) in
    rw (too_long_lem (s ++ t) (simp length-append (omega arith))) (four-first 268435456 (rw e at l))

-- ---- 5 and 6

showing-same : (n n' k place : ℕ) (w : Bool) → place < n → place < n' → showing n' k place w ≡ showing n k place w
unfolding showing
showing-same n n' k place w h g = rw (lt-ltb place n h, lt-ltb place n' g)

module _ (s t : List ℕ) where
  grown : length s ≤ length (s ++ t)
  grown = simp length-append (omega arith)

  at_old : (i : ℕ) → i < length s → byte (s ++ t) i ≡ byte s i
  at_old i h = get_or-append s t 0 i h

  pub magic-more : 4 ≤ length s → wrong_magic (s ++ t) ≡ wrong_magic s
  unfolding wrong_magic
  magic-more h =
      rw (at_old 0 (omega arith), at_old 1 (omega arith), at_old 2 (omega arith), at_old 3 (omega arith))
      (showing-same (length s) (length (s ++ t)) 5 3 _ (omega arith) (omega (arith, grown)))

  pub link-more : 24 ≤ length s → wrong_link (s ++ t) ≡ wrong_link s
  unfolding wrong_link word32
  link-more h =
      rw (at_old 20 (omega arith), at_old 21 (omega arith), at_old 22 (omega arith), at_old 23 (omega arith))
      (showing-same (length s) (length (s ++ t)) 6 23 _ (omega arith) (omega (arith, grown)))

pub magic-early : (s : List ℕ) → length s ≤ 3 → wrong_magic s ≡ none
unfolding wrong_magic
magic-early s h = showing-none (length s) 0 5 3 _ true h

pub link-early : (s : List ℕ) → length s ≤ 23 → wrong_link s ≡ none
unfolding wrong_link
link-early s h = showing-none (length s) 0 6 23 _ true h

-- ---- 7 and 8

pub shows : (n k place : ℕ) (w : Bool) → place < n → showing n k place w ≡ none → w ≡ false
unfolding showing
shows n k place w h = go w (lt-ltb place n h)
  where
    go : (w : Bool) → ltb place n ≡ true → pick (ltb place n && w) (fault k place) none ≡ none → w ≡ false
    go false l e = refl
    go true l e = absurd (never {k = k} {p = place} (rw l at e))

shows-not : (n k place : ℕ) (w : Bool) → (place < n → w ≡ false) → showing n k place w ≡ none
unfolding showing
shows-not n k place w h = elim (dec_le n place) [
  | yes g ↦ rw (le-ltb place n g)
  | no g ↦ rw (h (omega arith), and-false (ltb place n))
]

module _ (n place : ℕ) (r : List ℕ) (e : n ≡ place + length r) where
  pub header-fine : Fine r → wrong_frame_header n place r ≡ none
  unfolding wrong_frame_header
  header-fine f =
      rw (
        shows-not n 7 (place + 7) (ltb 999999 (microseconds r))
            (λ h. le-ltb 999999 (microseconds r) (f.time (omega arith))),
        shows-not n 8 (place + 11) (ltb 65535 (stored_length r))
            (λ h. le-ltb 65535 (stored_length r) (f.size (omega arith))),
      )

  pub fine-header : wrong_frame_header n place r ≡ none → Fine r
  unfolding wrong_frame_header
  fine-header h =
      let b = none_both (showing n 7 (place + 7) (ltb 999999 (microseconds r)))
      (showing n 8 (place + 11) (ltb 65535 (stored_length r))) h in
      record {
        time = λ g. ltb-false 999999 (microseconds r)
            (shows n 7 (place + 7) (ltb 999999 (microseconds r)) (omega arith) b.0);
        size = λ g. ltb-false 65535 (stored_length r)
            (shows n 8 (place + 11) (ltb 65535 (stored_length r)) (omega arith) b.1);
      }

  seven-shown : 8 ≤ length r → 999999 < microseconds r → wrong_frame_header n place r ≡ fault 7 (place + 7)
  unfolding wrong_frame_header showing
  seven-shown l h =
      rw (lt-ltb (place + 7) n (omega arith), lt-ltb 999999 (microseconds r) h)
      (go (ltb (place + 11) n && ltb 65535 (stored_length r)))
    where
      go : (b : Bool) → earlier (fault 7 (place + 7)) (pick b (fault 8 (place + 11)) none) ≡ fault 7 (place + 7)
      go true = rw (le-leb (place + 7) (place + 11) (omega arith))
      go false = refl

  eight-shown : 12 ≤ length r → microseconds r ≤ 999999 → 65535 < stored_length r →
      wrong_frame_header n place r ≡ fault 8 (place + 11)
  unfolding wrong_frame_header showing
  eight-shown l g h =
      rw (
        lt-ltb (place + 7) n (omega arith),
        le-ltb 999999 (microseconds r) g,
        lt-ltb (place + 11) n (omega arith),
        lt-ltb 65535 (stored_length r) h,
      )

header-same : (n n' place : ℕ) (f : List ℕ) → place + 11 < n → n ≤ n' →
    wrong_frame_header n' place f ≡ wrong_frame_header n place f
unfolding wrong_frame_header
header-same n n' place f h g =
    rw (
      showing-same n n' 7 (place + 7) (ltb 999999 (microseconds f)) (omega arith) (omega arith),
      showing-same n n' 8 (place + 11) (ltb 65535 (stored_length f)) (omega arith) (omega arith),
    )

-- frames that showed nothing show nothing later
frames-next : (n n' p : ℕ) {fs : List (List ℕ)} (r : List ℕ) (gs : List (List ℕ)) → All Whole fs →
    p + length (end_to_end fs) ≤ n → n ≤ n' →
    wrong_frame n p (fs ++ r ∷ []) ≡ none →
    wrong_frame n' p (fs ++ gs) ≡ wrong_frame n' (p + length (end_to_end fs)) gs
unfolding wrong_frame end_to_end
frames-next n n' p r gs empty a h e = ap (λ (q : ℕ). wrong_frame n' q gs) (omega arith)
frames-next n n' p r gs (and {x} {xs} w ws) a h e =
    let l = length-append x (end_to_end xs) in
    let k = size-least x in
    let b = none_both (wrong_frame_header n p x) (wrong_frame n (p + length x) (xs ++ r ∷ [])) e in
    let f : wrong_frame_header n' p x ≡ none = header-same n n' p x (omega arith) h ∙ b.0 in
    let q : p + length x + length (end_to_end xs) ≡ p + length (x ++ end_to_end xs) = omega arith in
    rw f (frames-next n n' (p + length x) r gs ws (omega arith) h b.1 ∙ ap (λ (z : ℕ). wrong_frame n' z gs) q)

one-frame : (n p : ℕ) (r : List ℕ) → wrong_frame n p (r ∷ []) ≡ wrong_frame_header n p r
unfolding wrong_frame
one-frame n p r = earlier-none (wrong_frame_header n p r)

empty-frame : (n p : ℕ) → n ≤ p → wrong_frame_header n p [] ≡ none
unfolding wrong_frame_header
empty-frame n p h =
    rw (shows-not n 7 (p + 7) _ (λ g. absurd (omega arith)), shows-not n 8 (p + 11) _ (λ g. absurd (omega arith)))

module _ (s t : List ℕ) (h : 24 ≤ length s) (fits : length (unfinished s ++ t) ≤ frame_size (unfinished s ++ t))
    (c : wrong_frame (length s) 24 (all_frames s) ≡ none) where
  size-now : length (s ++ t) ≡ base s + length (unfinished s ++ t)
  size-now =
      let a = length-append s t in
      let b = length-append (unfinished s) t in
      let d = base_sum s h in
      omega arith

  behind-frames : (gs : List (List ℕ)) →
      wrong_frame (length (s ++ t)) 24 (whole_frames s ++ gs) ≡ wrong_frame (length (s ++ t)) (base s) gs
  unfolding base all_frames
  behind-frames gs =
      frames-next (length s) (length (s ++ t)) 24 (unfinished s) gs (frames-whole s)
      (omega (arith, base_sum s h)) (grown s t) c

  frame-more : wrong_frame (length (s ++ t)) 24 (all_frames (s ++ t)) ≡ wrong_frame_header (length (s ++ t)) (base s)
      (unfinished s ++ t)
  unfolding all_frames
  frame-more = elim (dec_le (frame_size (unfinished s ++ t)) (length (unfinished s ++ t))) [
    | no g ↦
        rw (
          whole_part s t h (omega arith),
          unfinished-part s t h (omega arith),
          behind-frames ((unfinished s ++ t) ∷ []),
        )
        (one-frame (length (s ++ t)) (base s) (unfinished s ++ t))
    | yes g ↦
        let e : length (unfinished s ++ t) ≡ frame_size (unfinished s ++ t) = omega arith in
        rw (
          whole-full s t h e,
          unfinished-full s t h e,
          append_assoc (whole_frames s) ((unfinished s ++ t) ∷ []) ([] ∷ []),
          behind-frames ((unfinished s ++ t) ∷ [] ∷ []),
        )
        (unfold wrong_frame in rw (empty-frame (length (s ++ t)) (base s + length (unfinished s ++ t))
        (omega (arith, size-now))) (earlier-none (wrong_frame_header (length (s ++ t)) (base s) (unfinished s ++ t))))
  ]

-- of the frame that is not whole yet
pub fine-now : {s : List ℕ} → 24 ≤ length s → Sound s → Fine (unfinished s)
unfolding all_frames base
fine-now {s} h c =
    let e = frames-next (length s) (length s) 24 (unfinished s) (unfinished s ∷ []) (frames-whole s)
    (omega (arith, base_sum s h)) (omega arith) c.frames in
    let f : wrong_frame (length s) (base s) (unfinished s ∷ []) ≡ none = sym e ∙ c.frames in
    fine-header (length s) (base s) (unfinished s) (sym (base_sum s h))
    (sym (one-frame (length s) (base s) (unfinished s)) ∙ f)

-- ---- bytes more that do not pass the frame's end, nor the limit

module _ (s t : List ℕ) (h : 24 ≤ length s) (fits : length (unfinished s ++ t) ≤ frame_size (unfinished s ++ t))
    (few : length (s ++ t) ≤ 268435456) (c : Sound s) where
  shows-next : format_fault (s ++ t) ≡ wrong_frame_header (length (s ++ t)) (base s) (unfinished s ++ t)
  unfolding format_fault
  shows-next =
      rw (
        long-none (s ++ t) few,
        magic-more s t (omega arith),
        c.magic,
        link-more s t h,
        c.link,
        frame-more s t h fits c.frames,
      )

  at-end : length (s ++ t) ≡ base s + length (unfinished s ++ t)
  at-end = size-now s t h fits c.frames

  pub next-none : Fine (unfinished s ++ t) → format_fault (s ++ t) ≡ none
  next-none f = shows-next ∙ header-fine (length (s ++ t)) (base s) (unfinished s ++ t) at-end f

  pub next-seven : 8 ≤ length (unfinished s ++ t) → 999999 < microseconds (unfinished s ++ t) →
      format_fault (s ++ t) ≡ fault 7 (base s + 7)
  next-seven l g = shows-next ∙ seven-shown (length (s ++ t)) (base s) (unfinished s ++ t) at-end l g

  pub next-eight : 12 ≤ length (unfinished s ++ t) → microseconds (unfinished s ++ t) ≤ 999999 →
      65535 < stored_length (unfinished s ++ t) →
      format_fault (s ++ t) ≡ fault 8 (base s + 11)
  next-eight l g k = shows-next ∙ eight-shown (length (s ++ t)) (base s) (unfinished s ++ t) at-end l g k

-- ---- the file header

module _ (s : List ℕ) (h : length s ≤ 24) where
  pub reached-none : (d : ℕ) → 0 < d → d ≤ 188 → reached d s ≡ []
  unfolding packets
  reached-none d p q =
      layout d p q s ∙ rw ((header-alone s h).0, (header-alone s h).1, of_none d p q (base s) [] (omega arith))

  pub header-units : (o : Opening) → too_many_units o s ≡ none
  header-units o = nine-of o s
      ∙ rw (reached-none 4 (omega arith) (omega arith)) (unfold nine wanted_of beginnings arrivals only in refl)

  pub header-frames : wrong_frame (length s) 24 (all_frames s) ≡ none
  unfolding all_frames
  header-frames =
      rw ((header-alone s h).0, (header-alone s h).1, one-frame (length s) 24 []) (empty-frame (length s) 24 h)

  pub header-shows : format_fault s ≡ earlier (wrong_magic s) (wrong_link s)
  unfolding format_fault
  header-shows = rw (long-none s (omega arith), header-frames, earlier-none (wrong_link s))

pub magic-shown : (s : List ℕ) → 3 < length s → wrong_magic s ≡ pick (is_magic s) none (fault 5 3)
unfolding wrong_magic showing
magic-shown s h =
    rw (lt-ltb 3 (length s) h) (by-test (λ (b : Bool). pick (not b) (fault 5 3) none ≡ pick b none (fault 5 3))
    (is_magic s) (λ e. refl) (λ e. refl))

pub link-shown : (s : List ℕ) → 23 < length s → wrong_link s ≡ pick (eqb (word32 s 20) 1) none (fault 6 23)
unfolding wrong_link showing
link-shown s h =
    rw (lt-ltb 23 (length s) h)
    (by-test (λ (b : Bool). pick (not b) (fault 6 23) none ≡ pick b none (fault 6 23)) (eqb
    (word32 s 20) 1) (λ e. refl) (λ e. refl))
