-- A refusal that the joined bytes show stays what they show first, whatever is fed later: what later
-- bytes show stands behind them.
use Prim.Native.Nat.{ℕ, ◌+◌, ◌≤◌, ◌<◌}
use native.Mathlib.Omega.{arith}
use native.Mathlib.Nat.{lt_of_not-le}
use native.Mathlib.Decide.{dec_le}
use mathlib.Core.Path.{◌≡◌, refl, ◌∙◌}
use mathlib.Core.List.{List, [], ◌∷◌, ◌++◌}
use mathlib.Core.Bool.{Bool, true, false, ◌&&◌}
use lib.ListN.{length, take, drop, length-append, length-drop, get_or-append}
use lib.Seq.{length-take-le, get_or-take, drop-append-le}
use lib.Dec.{leb, ltb}
use borrow.Author.Tests.{le-leb, lt-leb, lt-ltb, le-ltb}
use Rattle.rules.proofs.Laws.Lists.{by-test}
use Rattle.rules.specs.Bytes.{pick, byte, word32}
use Rattle.rules.specs.Refusals.{Fault, none, fault}
use Rattle.rules.specs.Frames.{microseconds, stored_length, frame_size, frames, rest, behind_header}
use Rattle.rules.specs.Capture.{whole_frames, unfinished, all_frames, earlier, showing, too_long, wrong_magic}
use Rattle.rules.specs.Capture.{wrong_link, wrong_frame_header, wrong_frame, format_fault}
use Rattle.capture_laws.proofs.Frames.{size-least, size-append, frames-none, rest-none, frames-one, rest-one}
use Rattle.capture_laws.proofs.Frames.{frames-onward, rest-onward, by_frames}

-- ---- refusals below a place and refusals from it on

pub data Below (n : ℕ) : Fault → Type 0 where
  no_fault : Below n none
  at_fault : {k p : ℕ} → p < n → Below n (fault k p)

pub data Late (n : ℕ) : Fault → Type 0 where
  late_none : Late n none
  late_fault : {k p : ℕ} → n ≤ p → Late n (fault k p)

-- what n bytes show, and what more bytes show
pub data Grows (n : ℕ) : Fault → Fault → Type 0 where
  same : {f : Fault} → Below n f → Grows n f f
  new : {f : Fault} → Late n f → Grows n none f

pub grows-kept : {n k p : ℕ} {f g : Fault} → Grows n f g → f ≡ fault k p → g ≡ fault k p
grows-kept (same b) e = e
grows-kept (new l) e = let z : ◌≡◌ {A = ℕ} 0 1 = cc in absurd (omega arith)

earlier-below : {n : ℕ} {f g : Fault} → Below n f → Below n g → Below n (earlier f g)
earlier-below {n} no_fault b = b
earlier-below {n} (at_fault h) no_fault = at_fault h
earlier-below {n} (at_fault {k} {p} h) (at_fault {k = l} {p = q} g) = go (leb p q)
  where
    go : (t : Bool) → Below n (pick t (fault k p) (fault l q))
    go true = at_fault h
    go false = at_fault g

earlier-late : {n : ℕ} {f g : Fault} → Late n f → Late n g → Late n (earlier f g)
earlier-late {n} late_none b = b
earlier-late {n} (late_fault h) late_none = late_fault h
earlier-late {n} (late_fault {k} {p} h) (late_fault {k = l} {p = q} g) = go (leb p q)
  where
    go : (t : Bool) → Late n (pick t (fault k p) (fault l q))
    go true = late_fault h
    go false = late_fault g

pub earlier-grows : {n : ℕ} {f f' g g' : Fault} → Grows n f f' → Grows n g g' → Grows n (earlier f g) (earlier f' g')
earlier-grows (same b) (same c) = same (earlier-below b c)
earlier-grows (same no_fault) (new l) = new l
earlier-grows (same (at_fault h)) (new late_none) = same (at_fault h)
earlier-grows (same (at_fault {p = p} h)) (new (late_fault {p = q} g)) =
    rw (le-leb p q (omega arith)) (same (at_fault h))
earlier-grows (new late_none) (same b) = same b
earlier-grows (new (late_fault h)) (same no_fault) = new (late_fault h)
earlier-grows (new (late_fault {p = p} h)) (same (at_fault {p = q} g)) =
    rw (lt-leb p q (omega arith)) (same (at_fault g))
earlier-grows (new l) (new m) = new (earlier-late l m)

-- ---- one field

module _ (n n' k place : ℕ) (w w' : Bool) where
  pub showing-late : n ≤ place → Late n (showing n' k place w')
  unfolding showing
  showing-late h =
      by-test (λ (t : Bool). Late n (pick t (fault k place) none)) (ltb place n' && w') (λ e. late_fault h)
      (λ e. late_none)

  pub showing-none : n ≤ place → showing n k place w ≡ none
  unfolding showing
  showing-none h = rw (le-ltb place n h)

  pub showing-grows : n ≤ n' → (place < n → w ≡ w') → Grows n (showing n k place w) (showing n' k place w')
  unfolding showing
  showing-grows h e = go (dec_le n place)
    where
      there : (t : Bool) → place < n → Grows n (pick t (fault k place) none) (pick t (fault k place) none)
      there true g = same (at_fault g)
      there false g = same no_fault

      go : Dec (n ≤ place) → Grows n (showing n k place w) (showing n' k place w')
      go (yes g) = rw (showing-none g) (new (showing-late g))
      go (no g) =
          let p : place < n = lt_of_not-le g in
          rw (lt-ltb place n p, lt-ltb place n' (omega arith), e p) (there w' p)

-- ---- a string that goes on

module _ (s t : List ℕ) where
  grown : length s ≤ length (s ++ t)
  grown = simp length-append (omega arith)

  at_old : (i : ℕ) → i < length s → byte (s ++ t) i ≡ byte s i
  at_old i h = get_or-append s t 0 i h

  pub long-grows : Grows (length s) (too_long s) (too_long (s ++ t))
  unfolding too_long
  long-grows = showing-grows (length s) (length (s ++ t)) 4 268435456 true true grown (λ h. refl)

  pub magic-grows : Grows (length s) (wrong_magic s) (wrong_magic (s ++ t))
  unfolding wrong_magic
  magic-grows =
      showing-grows (length s) (length (s ++ t)) 5 3 _ _ grown
      (λ h. rw (at_old 0 (omega arith), at_old 1 (omega arith), at_old 2 (omega arith), at_old 3 (omega arith)))

  pub link-grows : Grows (length s) (wrong_link s) (wrong_link (s ++ t))
  unfolding wrong_link word32
  link-grows =
      showing-grows (length s) (length (s ++ t)) 6 23 _ _ grown
      (λ h. rw (at_old 20 (omega arith), at_old 21 (omega arith), at_old 22 (omega arith), at_old 23 (omega arith)))

-- ---- frames

-- f, which stands at `place`, has the bytes of x, as far as a header goes and n bytes are there
abbrev pub Agrees : ℕ → ℕ → List ℕ → List ℕ → Type 0
Agrees n place x f = (i : ℕ) → i < 16 → place + i < n → byte f i ≡ byte x i

module _ (n n' : ℕ) (h : n ≤ n') where
  header-late : (place : ℕ) (f : List ℕ) → n ≤ place → Late n (wrong_frame_header n' place f)
  unfolding wrong_frame_header
  header-late place f g =
      earlier-late (showing-late n n' 7 (place + 7) true _ (omega arith))
      (showing-late n n' 8 (place + 11) true _ (omega arith))

  frame-late : (place : ℕ) (fs : List (List ℕ)) → n ≤ place → Late n (wrong_frame n' place fs)
  unfolding wrong_frame
  frame-late place [] g = late_none
  frame-late place (f ∷ fs) g = earlier-late (header-late place f g) (frame-late (place + length f) fs (omega arith))

  header-grows : (place : ℕ) (x f : List ℕ) → Agrees n place x f →
      Grows n (wrong_frame_header n place x) (wrong_frame_header n' place f)
  unfolding wrong_frame_header microseconds stored_length word32
  header-grows place x f a =
      earlier-grows
      (showing-grows n n' 7 (place + 7) _ _ h
      (λ g. rw (
        a 4 (omega arith) (omega arith),
        a 5 (omega arith) (omega arith),
        a 6 (omega arith) (omega arith),
        a 7 (omega arith) (omega arith),
      )))
      (showing-grows n n' 8 (place + 11) _ _ h
      (λ g. rw (
        a 8 (omega arith) (omega arith),
        a 9 (omega arith) (omega arith),
        a 10 (omega arith) (omega arith),
        a 11 (omega arith) (omega arith),
      )))

-- a frame that was cut off goes on: its header's bytes stay, and what follows it stands behind the old bytes
module _ (n place : ℕ) (x t : List ℕ) (e : n ≡ place + length x) where
  agrees_on : Agrees n place x (x ++ t)
  agrees_on i g k = get_or-append x t 0 i (omega arith)

  agrees-cut : (m : ℕ) → 16 ≤ m → Agrees n place x (take m (x ++ t))
  agrees-cut m h i g k = get_or-take m (x ++ t) i 0 (omega arith) ∙ get_or-append x t 0 i (omega arith)

-- a frame that is not whole is shorter than the frame that it becomes
cut_short : (x t : List ℕ) → length x < frame_size x → length x ≤ frame_size (x ++ t)
cut_short x t h = elim (dec_le 16 (length x)) [
  | yes g ↦ let e = size-append x t g in omega arith
  | no g ↦ let e = size-least (x ++ t) in omega arith
]

-- the frames of a string and the bytes behind them
abbrev pieces : List ℕ → List (List ℕ)
pieces x = frames x ++ rest x ∷ []

module _ (n n' : ℕ) (t : List ℕ) (h : n ≤ n') where
  cut-grows : (x : List ℕ) → length x < frame_size x → (place : ℕ) → n ≡ place + length x →
      Dec (frame_size (x ++ t) ≤ length (x ++ t)) →
      Grows n (wrong_frame n place (pieces x)) (wrong_frame n' place (pieces (x ++ t)))
  unfolding wrong_frame
  cut-grows x c place e (yes g) =
      rw (frames-none x c, rest-none x c, frames-one (x ++ t) g)
      (earlier-grows
      (header-grows n n' h place x (take (frame_size (x ++ t)) (x ++ t))
      (agrees-cut n place x t e (frame_size (x ++ t)) (size-least (x ++ t))))
      (new
      (frame-late n n' h (place + length (take (frame_size (x ++ t)) (x ++ t)))
      (frames (drop (frame_size (x ++ t)) (x ++ t)) ++ rest (x ++ t) ∷ [])
      (rw (length-take-le (frame_size (x ++ t)) (x ++ t) g) (omega (arith, cut_short x t c))))))
  cut-grows x c place e (no g) =
      rw (frames-none x c, rest-none x c, frames-none (x ++ t) (lt_of_not-le g), rest-none (x ++ t) (lt_of_not-le g))
      (earlier-grows (header-grows n n' h place x (x ++ t) (agrees_on n place x t e)) (same no_fault))

  pieces-grow : (x : List ℕ) (place : ℕ) → n ≡ place + length x →
      Grows n (wrong_frame n place (pieces x)) (wrong_frame n' place (pieces (x ++ t)))
  unfolding wrong_frame
  pieces-grow =
      by_frames (λ (x : List ℕ). (place : ℕ) → n ≡ place + length x →
      Grows n (wrong_frame n place (pieces x)) (wrong_frame n' place (pieces (x ++ t))))
      (λ x c place e. cut-grows x c place e (dec_le (frame_size (x ++ t)) (length (x ++ t))))
      (λ x c ih place e.
      rw (frames-one x c, rest-one x c, frames-onward x t c, rest-onward x t c)
      (earlier-grows (header-grows n n' h place (take (frame_size x) x) (take (frame_size x) x) (λ i g k. refl))
      (ih (place + length (take (frame_size x) x))
      (rw (length-take-le (frame_size x) x c, length-drop) (omega arith)))))

-- ---- 7 and 8 of a capture that goes on

module _ (n : ℕ) where
  header-none : (place : ℕ) (f : List ℕ) → n ≤ place → wrong_frame_header n place f ≡ none
  unfolding wrong_frame_header
  header-none place f g =
      rw (
        showing-none n n 7 (place + 7) (ltb 999999 (microseconds f)) true (omega arith),
        showing-none n n 8 (place + 11) (ltb 65535 (stored_length f)) true (omega arith),
      )

  frame-none : (place : ℕ) (fs : List (List ℕ)) → n ≤ place → wrong_frame n place fs ≡ none
  unfolding wrong_frame
  frame-none place [] g = refl
  frame-none place (f ∷ fs) g = rw (header-none place f g, frame-none (place + length f) fs (omega arith))

pub frames-grow : (s t : List ℕ) →
    Grows (length s) (wrong_frame (length s) 24 (all_frames s))
    (wrong_frame (length (s ++ t)) 24 (all_frames (s ++ t)))
unfolding all_frames whole_frames unfinished behind_header
frames-grow s t = elim (dec_le 24 (length s)) [
  | yes g ↦
      rw (drop-append-le 24 s t g)
      (pieces-grow (length s) (length (s ++ t)) t (grown s t) (drop 24 s) 24 (simp length-drop (omega arith)))
  | no g ↦
      rw (frame-none (length s) 24 (frames (drop 24 s) ++ rest (drop 24 s) ∷ []) (omega arith))
      (new (frame-late (length s) (length (s ++ t)) (grown s t) 24
      (frames (drop 24 (s ++ t)) ++ rest (drop 24 (s ++ t)) ∷ []) (omega arith)))
]

-- ---- 4 to 8 together

pub format-grows : (s t : List ℕ) → Grows (length s) (format_fault s) (format_fault (s ++ t))
unfolding format_fault
format-grows s t =
    earlier-grows (long-grows s t)
    (earlier-grows (magic-grows s t) (earlier-grows (link-grows s t) (frames-grow s t)))
