-- Rows that are written one behind the other, and the record that they make with its header.
use Prim.Native.Nat.{ℕ, zero, suc, ◌+◌, ◌*◌, ◌^◌, ◌≤◌, ◌<◌}
use native.Mathlib.Omega.{arith}
use native.Mathlib.Nat.{add-zero}
use native.Mathlib.Numerals.{add-one}
use native.Mathlib.Decide.{dec_lt}
use mathlib.Core.Path.{◌≡◌, refl, sym, ap, subst⁻¹, ◌∙◌}
use mathlib.Core.List.{List, [], ◌∷◌, ◌++◌, map, map-append, append-nil, append_assoc}
use mathlib.Core.Bool.{Bool}
use lib.ListN.{length, get_or, take, drop, length-append, length-drop, take-append-drop, get_or-append}
use lib.Seq.{ext_get_or}
use borrow.Author.Tests.{le-ltb}
use Rattle.rules.specs.declared.Header.{Header}
use Rattle.rules.specs.declared.UnitRow.{UnitRow}
use Rattle.rules.specs.declared.SceneRow.{SceneRow}
use Rattle.rules.specs.Bytes.{end_to_end}
use Rattle.rules.specs.Scenes.{scenes_of}
use Rattle.rules.specs.Record.{record_length, scene_offset, header_bytes, unit_bytes, scene_bytes}
use Rattle.rules.specs.Reading.{unit_place}
use Rattle.rules.specs.Seal.{over}
use Rattle.rules.proofs.Laws.Lists.{end_to_end-append}
use Rattle.record_laws.proofs.Record.{length-header, length-unit, length-scene, length-rows, parts-of}
use Rattle.words.specs.Written.{written}
use Rattle.words.proofs.Laws.{written-append}
use Rattle.capture_units.specs.Units.{units_of}
use Rattle.capture_units.specs.State.{no_unit}
use Rattle.capture_units.specs.Contract.{Row}
use Rattle.luma_scenes.specs.Words.{Holds}
use Rattle.luma_scenes.specs.Next.{next_start, start_at, scenes_from}
use Rattle.luma_scenes.specs.Contract.{NextPost, RowPost}
use Rattle.luma_scenes.proofs.Starts.{scene-at, scenes-rest}
use Rattle.words.proofs.Behind.{over-written}
use Rattle.sealing.specs.Contract.{UnitsWritten, IsScene, ScenesWritten, RecordWritten}

abbrev no_scene : SceneRow
no_scene = record { first = 0; pictures = 0; repeated = 0; longest = 0; score = 0; peak = 0; change = 0 }

-- ---- rows of any kind

module _ {A : Type 0} (f : A → List ℕ) (wide : (x : A) → length (f x) ≡ 32) (at : ℕ) (s : List ℕ) where
  rows_append : (xs : List A) (x : A) → end_to_end (map f (xs ++ x ∷ [])) ≡ end_to_end (map f xs) ++ f x
  unfolding end_to_end
  rows_append xs x = rw (map-append f xs (x ∷ []), end_to_end-append (map f xs) (f x ∷ []), append-nil (f x))

  pub row_more : (xs : List A) (x : A) {s₁ s₂ : List ℕ} → at + 32 * length xs + 32 ≤ length s →
      s₁ ≡ written at (end_to_end (map f xs)) s → s₂ ≡ written (at + 32 * length xs) (f x) s₁ →
      s₂ ≡ written at (end_to_end (map f (xs ++ x ∷ []))) s
  row_more xs x {s₁} {s₂} fits e₁ e₂ =
      let n = length-rows f wide xs in
      let p : at + 32 * length xs ≡ at + length (end_to_end (map f xs)) = omega arith in
      let room : at + length (end_to_end (map f xs)) ≤ length s = omega arith in
      e₂ ∙ rw (e₁, p) (written-append at (end_to_end (map f xs)) s room (f x))
      ∙ ap (λ (bs : List ℕ). written at bs s) (sym (rows_append xs x))

-- nothing was written
pub written_none : (at : ℕ) (s : List ℕ) → s ≡ written at [] s
unfolding written
written_none at s = rw (append-nil (take at s), add-zero at) (sym (take-append-drop at s))

-- an element of a list with one more
at_last : {A : Type 0} (xs : List A) (x d : A) (j : ℕ) → j ≡ length xs → get_or (xs ++ x ∷ []) j d ≡ x
at_last [] x d j e = rw e
at_last (y ∷ xs) x d zero e = absurd (omega arith)
at_last (y ∷ xs) x d (suc j) e = at_last xs x d j (omega arith)

-- what holds of each of n rows and of one more holds of each of n + 1
module _ {A : Type 0} (P : ℕ → A → Type 0) (xs : List A) (x : A) where
  pub each_more : (n : ℕ) → length xs ≡ n → ((j : ℕ) → j < n → (d : A) → P j (get_or xs j d)) → P n x → (j : ℕ) →
      j < n + 1 → (d : A) → P j (get_or (xs ++ x ∷ []) j d)
  each_more n e old new j h d = elim (dec_lt j n) [
    | yes k ↦ subst⁻¹ (P j) (get_or-append xs (x ∷ []) d j (omega arith)) (old j k d)
    | no k ↦
        let i : j ≡ n = omega arith in
        subst⁻¹ (P j) (at_last xs x d j (omega arith)) (subst⁻¹ (λ (i : ℕ). P i x) i new)
  ]

length_more : {A : Type 0} (xs : List A) (x : A) (n : ℕ) → length xs ≡ n → length (xs ++ x ∷ []) ≡ n + 1
length_more xs x n e = simp length-append (omega arith)

-- ---- units

pub units-none : (capture s : List ℕ) → UnitsWritten capture 0 s s
unfolding end_to_end
units-none capture s =
    record { rows = []; many = refl; each = λ j h d. absurd (omega arith); bytes = written_none 64 s }

module _ (capture : List ℕ) (n : ℕ) (s s₁ s₂ : List ℕ) (fits : 64 + 32 * n + 32 ≤ length s) where
  pub units-more : (row : UnitRow) → UnitsWritten capture n s s₁ → Row capture n row →
      s₂ ≡ written (unit_place n) (unit_bytes row) s₁ → UnitsWritten capture (n + 1) s s₂
  unfolding unit_place
  units-more row w r e =
      let m = w.many in
      let i : 64 + 32 * n ≡ 64 + 32 * length w.rows = omega arith in
      let e' : s₂ ≡ written (64 + 32 * length w.rows) (unit_bytes row) s₁ =
      e ∙ ap (λ (k : ℕ). written k (unit_bytes row) s₁) i in
      record {
        rows = w.rows ++ row ∷ [];
        many = length_more w.rows row n m;
        each = each_more (Row capture) w.rows row n m w.each r;
        bytes = row_more unit_bytes length-unit 64 s w.rows row (omega arith) w.bytes e';
      }

-- ---- scenes

-- j rows of scenes were written, and the next scene starts at `start`
pub record ScenesSoFar (luma : List ℕ) (pictures d units : ℕ) (s : List ℕ) (start j : ℕ) (s₁ : List ℕ) : Type 0 where
  pub rows : List SceneRow
  pub many : length rows ≡ j
  pub started : (ss : List ℕ) (rs : List Bool) (qs : List ℕ) → Holds luma pictures ss rs qs → d < 2 ^ 32 →
      j < length (scenes_of d ss rs qs) → start ≡ start_at d ss j
  pub each : (i : ℕ) → i < j → (z : SceneRow) → IsScene luma pictures d i (get_or rows i z)
  pub bytes : s₁ ≡ written (scene_offset units) (end_to_end (map scene_bytes rows)) s

pub scenes-none : (luma : List ℕ) (pictures d units : ℕ) (s : List ℕ) → ScenesSoFar luma pictures d units s 0 0 s
unfolding end_to_end start_at
scenes-none luma pictures d units s =
    record {
      rows = [];
      many = refl;
      started = λ ss rs qs k t l. refl;
      each = λ j k z. absurd (omega arith);
      bytes = written_none (scene_offset units) s;
    }

-- where there is a scene, its start is a picture
start-picture : (d : ℕ) (ss : List ℕ) (rs : List Bool) (qs : List ℕ) (j : ℕ) → j < length (scenes_of d ss rs qs) →
    start_at d ss j < length ss
unfolding scenes_from
start-picture d ss rs qs j h = elim (dec_lt (start_at d ss j) (length ss)) [
  | yes k ↦ k
  | no k ↦
      let e : drop j (scenes_of d ss rs qs) ≡ [] =
      scenes-rest d ss rs qs j ∙ rw (le-ltb (start_at d ss j) (length ss) (omega arith)) in
      absurd (omega (arith, ap length e, length-drop j (scenes_of d ss rs qs)))
]

module _ (luma : List ℕ) (pictures d units : ℕ) (s s₁ : List ℕ) (start j : ℕ)
    (w : ScenesSoFar luma pictures d units s start j s₁) where
  module _ (next : ℕ) (row : SceneRow) (n : NextPost luma pictures d start next)
      (r : RowPost luma start next row) where
    module _ (ss : List ℕ) (rs : List Bool) (qs : List ℕ) (k : Holds luma pictures ss rs qs) (t : d < 2 ^ 32)
        (l : j < length (scenes_of d ss rs qs)) where
      here : start ≡ start_at d ss j
      here = w.started ss rs qs k t l

      inside : start < pictures
      inside =
          let a = start-picture d ss rs qs j l in
          let b = k.scores.size in
          omega (arith, here)

      onward : next ≡ start_at d ss (suc j)
      unfolding start_at
      onward = n.next ss rs qs k t inside ∙ ap (next_start d ss) here

      is-scene : (z : SceneRow) → row ≡ get_or (scenes_of d ss rs qs) j z
      is-scene z =
          r pictures ss rs qs k (n.more inside) n.most ∙ rw (here, onward) (sym (scene-at d ss rs qs j z l))

    pub scenes-more : {s₂ : List ℕ} → scene_offset units + 32 * j + 32 ≤ length s →
        s₂ ≡ written (scene_offset units + 32 * j) (scene_bytes row) s₁ →
        ScenesSoFar luma pictures d units s next (j + 1) s₂
    scenes-more {s₂} fits e =
        let m = w.many in
        let at = scene_offset units in
        let i : at + 32 * j ≡ at + 32 * length w.rows = omega arith in
        let e' : s₂ ≡ written (at + 32 * length w.rows) (scene_bytes row) s₁ =
        e ∙ ap (λ (k : ℕ). written k (scene_bytes row) s₁) i in
        record {
          rows = w.rows ++ row ∷ [];
          many = length_more w.rows row j m;
          started = λ ss rs qs k t l. onward ss rs qs k t (omega arith) ∙ ap (start_at d ss) (sym (add-one j));
          each = each_more (IsScene luma pictures d) w.rows row j m w.each
              (λ ss rs qs z k t l. is-scene ss rs qs k t l z);
          bytes = row_more scene_bytes length-scene at s w.rows row (omega arith) w.bytes e';
        }

  pub scenes-all : (n : ℕ) → j ≡ n → ScenesWritten luma pictures d units n s s₁
  scenes-all n e =
      record { rows = w.rows; many = w.many ∙ e; each = λ i k z. w.each i (omega arith) z; bytes = w.bytes }

-- ---- the record

module _ (capture luma : List ℕ) (h : Header) (s s₁ s₂ s₃ : List ℕ)
    (fits : record_length h.units h.scenes ≤ length s) where
  pub record-written : s₁ ≡ over (header_bytes h) s → UnitsWritten capture h.units s₁ s₂ →
      ScenesWritten luma h.pictures h.time h.units h.scenes s₂ s₃ → RecordWritten capture luma h s s₃
  unfolding record_length scene_offset
  record-written e u v st ps ss rs qs stands few holds time units scenes =
      let us = units_of ps in
      let xs = scenes_of h.time ss rs qs in
      let a : u.rows ≡ us = ext_get_or no_unit u.rows us (u.many ∙ units)
      (λ j k. u.each j (omega (arith, u.many)) no_unit st ps no_unit stands few (omega (arith, u.many))) in
      let b : v.rows ≡ xs = ext_get_or no_scene v.rows xs (v.many ∙ scenes)
      (λ j k. v.each j (omega (arith, v.many)) no_scene ss rs qs no_scene holds time (omega (arith, v.many))) in
      let n₁ = length-header h in
      let n₂ = length-rows unit_bytes length-unit u.rows in
      let m₂ = u.many in
      let hb = header_bytes h in
      let ub = end_to_end (map unit_bytes u.rows) in
      let xb = end_to_end (map scene_bytes v.rows) in
      let f₁ : s₁ ≡ written 0 hb s = e ∙ sym (over-written hb s) in
      let p₁ : 64 ≡ 0 + length hb = omega arith in
      let f₂ : s₂ ≡ written 0 (hb ++ ub) s = u.bytes ∙ rw (f₁, p₁) (written-append 0 hb s (omega arith) ub) in
      let l₂ : length (hb ++ ub) ≡ 64 + 32 * h.units = simp (length-append) (omega arith) in
      let p₂ : 64 + 32 * h.units ≡ 0 + length (hb ++ ub) = omega arith in
      let f₃ : s₃ ≡ written 0 (hb ++ ub ++ xb) s =
      v.bytes ∙ rw (f₂, p₂) (written-append 0 (hb ++ ub) s (omega arith) xb) in
      f₃ ∙ over-written (hb ++ ub ++ xb) s
      ∙ rw (a, b, append_assoc hb (end_to_end (map unit_bytes us)) (end_to_end (map scene_bytes xs)), parts-of h us xs)
