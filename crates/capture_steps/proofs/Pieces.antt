-- The state in the words, a refusal that bytes show, and the bytes of a step.
use Rattle.std.proofs.Common.{◌≡◌, ℕ, ◌+◌, ◌<◌, ◌≤◌, List, [], ◌∷◌, length, take, drop, ap, ◌∙◌, arith, length-drop}
use Rattle.std.proofs.Common.{length-take-le, take_all}
use lib.Seq.{sets, sets-eq}
use Rattle.rules.specs.Refusals.{fault}
use Rattle.rules.specs.Capture.{whole_frames, unfinished}
use Rattle.capture_steps.specs.declared.types.Walk.{Walk}
use Rattle.capture_steps.specs.declared.types.Step.{Step}
use Rattle.capture_steps.specs.declared.types.Event.TheVariants.{Refused}
use Rattle.capture_steps.specs.Format.{format_fault, shown_cells}
use Rattle.capture_steps.specs.State.{loaded, Core, Head, Stands, refused, head, live}
use Rattle.capture_steps.specs.Contract.{silent, Passed, Goes, Moves}

-- ---- a state that has refused nothing

pub at-live : {k : List ℕ} {s : Walk} {joined : List ℕ} → s.status ≡ 0 → 24 ≤ s.fed → Stands k s joined →
    (24 ≤ length joined) × Core k s (whole_frames joined) (unfinished joined) joined
at-live h k (refused l e p) = absurd (omega arith)
at-live h k (head v) = absurd (omega (arith, v.fed, v.short))
at-live h k (live g v) = (g, v)

pub at_head : {k : List ℕ} {s : Walk} {joined : List ℕ} → s.status ≡ 0 → s.fed < 24 → Stands k s joined →
    Head k s joined
at_head h k (refused l e p) = absurd (omega arith)
at_head h k (head v) = v
at_head h k (live g v) = absurd (omega (arith, v.fed))

-- a refusal that a turn's bytes show: they show no cell
pub refuse-now : {kept : List ℕ} {r : Walk} {piece joined a : List ℕ} (n k p : ℕ) → length kept ≡ 64 →
    format_fault a ≡ fault k p → 0 < k → r.status ≡ k → r.place ≡ p →
    shown_cells a ≡ shown_cells joined → Passed kept (record { taken = n; walk = r; event = Refused }) piece joined a
refuse-now n k p l e h a b g =
    record { stands = refused l (rw (e, a, b)) (omega arith); tells = (rw (e, a, b), silent g); calm = g }

-- ---- the bytes of a step

pub many-taken : (piece : List ℕ) (i n : ℕ) → i + n ≤ length piece → length (take n (drop i piece)) ≡ n
many-taken piece i n h = length-take-le n (drop i piece) (simp length-drop (omega arith))

-- a part of n bytes, of m as the code writes it
pub part-long : (piece : List ℕ) (i n m : ℕ) → i + n ≤ length piece → m ≡ n → length (take m (drop i piece)) ≡ n
part-long piece i n m h e = rw e (many-taken piece i n h)

pub moved : {kept kept' : List ℕ} {s : Walk} {r : Step} (piece : List ℕ) (i n m : ℕ) → i + n ≤ length piece → m ≡ n →
    Moves kept s (take m (drop i piece)) kept' r → Goes kept s piece i n kept' r
moved piece i n m h e g =
    let w = rw e at g in record { taken = w.taken ∙ many-taken piece i n h; fits = w.fits piece; goes = w.goes piece }

pub part-rest : (piece : List ℕ) (i n : ℕ) → length piece ≤ i + n → take n (drop i piece) ≡ drop i piece
part-rest piece i n h = take_all n (drop i piece) (simp length-drop (omega arith))

pub nonzero : {n : ℕ} → (n ≡ 0 → ⊥) → 0 < n
nonzero h = omega (arith, h)

-- ---- the state in the words

abbrev pub numbers : Walk → List ℕ
numbers s = s.status ∷ s.place ∷ s.fed ∷ s.at ∷ s.size ∷ s.got ∷ s.left ∷ s.frames ∷ s.skipped ∷ []

pub stored : (w : List ℕ) (s : Walk) → 9 ≤ length w → loaded (sets w 0 (numbers s)) ≡ s
stored w s h = ap loaded (sets-eq (numbers s) w 0 h)
