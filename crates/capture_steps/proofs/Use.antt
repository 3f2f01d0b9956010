-- For whoever counts cells on top of the walk.
use Rattle.std.proofs.Common.{◌≡◌, ℕ, suc, ◌*◌, ◌≤◌, List, [], ◌∷◌, ◌++◌, map, length, sym, refl, ap, ◌∙◌, arith}
use Rattle.rules.specs.Bytes.{count}
use Rattle.rules.specs.Refusals.{Fault, none, fault}
use Rattle.rules.specs.Packets.{skipped}
use Rattle.rules.specs.Capture.{frame_count, skipped_count}
use Rattle.capture_laws.proofs.Onward.{header-alone}
use Rattle.capture_laws.proofs.Flow.{reached}
use Rattle.capture_laws.proofs.Bounds.{reached-few}
use Rattle.capture_laws.proofs.Format.{long_of, reached-none, format-kept, sound-of}
use Rattle.capture_cells.specs.Cells.{cell_of}
use Rattle.capture_steps.specs.declared.types.Walk.{Walk}
use Rattle.capture_steps.specs.declared.types.Event.{Event}
use Rattle.capture_steps.specs.declared.types.Event.TheVariants.{Nothing, Shown, Whole, Cells, Refused}
use Rattle.capture_steps.specs.Format.{format_fault, whole_cells}
use Rattle.capture_steps.specs.State.{Stands, refused, head, live}
use Rattle.capture_steps.specs.Contract.{Tells, whole_of}
use Rattle.capture_steps.proofs.Lists.{whole-of}

never : {k p : ℕ} → fault k p ≡ none → ⊥
never e = let z : ◌≡◌ {A = ℕ} 0 1 = cc in omega arith

-- ---- what a walk says

pub says-fault : {kept : List ℕ} {s : Walk} {joined : List ℕ} → (s.status ≡ 0 → ⊥) → Stands kept s joined →
    format_fault joined ≡ fault s.status s.place
says-fault h (refused l e k) = e
says-fault h (head v) = absurd (h v.status)
says-fault h (live g v) = absurd (h v.status)

pub says-clear : {kept : List ℕ} {s : Walk} {joined : List ℕ} → s.status ≡ 0 → Stands kept s joined →
    format_fault joined ≡ none
says-clear h (refused l e k) = absurd (omega arith)
says-clear h (head v) = v.clear
says-clear h (live g v) = v.clear

pub says-fed : {kept : List ℕ} {s : Walk} {joined : List ℕ} → s.status ≡ 0 → Stands kept s joined →
    s.fed ≡ length joined
says-fed h (refused l e k) = absurd (omega arith)
says-fed h (head v) = v.fed
says-fed h (live g v) = v.fed

pub says_none : {kept : List ℕ} {s : Walk} {joined : List ℕ} → format_fault joined ≡ none → Stands kept s joined →
    s.status ≡ 0
says_none c (refused l e k) = absurd (never (sym e ∙ c))
says_none c (head v) = v.status
says_none c (live g v) = v.status

pub says-frames : {kept : List ℕ} {s : Walk} {joined : List ℕ} → s.status ≡ 0 → Stands kept s joined →
    s.frames ≡ frame_count joined
unfolding frame_count
says-frames h (refused l e k) = absurd (omega arith)
says-frames {joined = joined} h (head v) = let k = v.short in rw (header-alone joined (omega arith)).0 v.frames
says-frames h (live g v) = v.frames

pub says-skipped : {kept : List ℕ} {s : Walk} {joined : List ℕ} → s.status ≡ 0 → Stands kept s joined →
    s.skipped ≡ skipped_count joined
unfolding skipped_count
says-skipped h (refused l e k) = absurd (omega arith)
says-skipped {joined = joined} h (head v) =
    let k = v.short in rw (header-alone joined (omega arith)).0 (v.skipped ∙ unfold skipped count in refl)
says-skipped h (live g v) = v.skipped

-- ---- a refusal stays, so that none was there before either

pub clear-before : (s t : List ℕ) → format_fault (s ++ t) ≡ none → format_fault s ≡ none
clear-before s t h = go (format_fault s) refl
  where
    go : (f : Fault) → format_fault s ≡ f → format_fault s ≡ none
    go none e = e
    go (fault k p) e = absurd (never (sym (format-kept s t k p e) ∙ h))

pub clear-long : (s : List ℕ) → format_fault s ≡ none → length s ≤ 268435456
clear-long s h = long_of s (sound-of s h).long

-- ---- the whole cells that an event brings

pub tells-whole : (e : Event) (s : Walk) (piece before after : List ℕ) → Tells e s piece before after →
    format_fault after ≡ none →
    whole_cells after ≡ whole_cells before ++ whole_of e piece
tells-whole Nothing s piece before after t c = t.whole
tells-whole (Shown x) s piece before after t c = t.0.whole
tells-whole (Whole x) s piece before after t c = t.0.whole
tells-whole (Cells r) s piece before after t c = t.0.whole
tells-whole Refused s piece before after t c = absurd (never (sym t.0 ∙ c))

pub none-whole : whole_cells [] ≡ []
none-whole = whole-of [] ∙ ap (map cell_of) (reached-none [] (omega arith) 188 (omega arith) (omega arith))

-- ---- no more cells than the bytes allow

length-map : {A B : Type 0} (f : A → B) (xs : List A) → length (map f xs) ≡ length xs
length-map f [] = refl
length-map f (x ∷ xs) = ap suc (length-map f xs)

pub whole-few : (s : List ℕ) → 188 * length (whole_cells s) ≤ length s
whole-few s =
    let h = reached-few s in let l = ap length (whole-of s) ∙ length-map cell_of (reached 188 s) in omega arith
