-- Reading back: a record's header figures, its rows and its zero words are those that were written, and two sets of
-- figures never have one record.
use Prim.Native.Nat.{ℕ, zero, suc, ◌+◌, ◌*◌, ◌^◌, ◌≤◌, ◌<◌}
use native.Mathlib.Omega.{arith}
use mathlib.Core.Path.{◌≡◌, refl, sym, ap, ◌∙◌}
use mathlib.Core.List.{List, [], ◌∷◌, ◌++◌, map, append_assoc, append-nil}
use lib.ListN.{length, get_or, drop, length-append}
use lib.Seq.{drop-cons, drop-append-add, ext_get_or}
use Rattle.rules.specs.declared.Header.{Header}
use Rattle.rules.specs.declared.UnitRow.{UnitRow}
use Rattle.rules.specs.declared.SceneRow.{SceneRow}
use Rattle.rules.specs.Bytes.{word32, word64, bytes_of, end_to_end}
use Rattle.rules.specs.Record.{record_length, scene_offset, header_bytes, unit_bytes, scene_bytes, record_bytes}
use Rattle.rules.specs.Reading.{header_of, unit_place, scene_place, unit_at, scene_at}
use Rattle.rules.specs.Reading.{unit_in, scene_in}
use Rattle.record_laws.proofs.Words.{word32-bytes, word64-bytes}

-- ---- figures that fit their words

pub record HeaderFits (h : Header) : Type 0 where
  pub edition : h.edition < 2 ^ 32
  pub length : record_length h.units h.scenes < 2 ^ 32
  pub width : h.width < 2 ^ 32
  pub height : h.height < 2 ^ 32
  pub time : h.time < 2 ^ 32
  pub pid : h.pid < 2 ^ 32
  pub pictures : h.pictures < 2 ^ 32
  pub frames : h.frames < 2 ^ 32
  pub skipped : h.skipped < 2 ^ 32
  pub bad : h.bad < 2 ^ 32
  pub index : h.index < 2 ^ 64

pub record UnitFits (u : UnitRow) : Type 0 where
  pub least : u.least < 2 ^ 64
  pub greatest : u.greatest < 2 ^ 64
  pub size : u.size < 2 ^ 32
  pub packets : u.packets < 2 ^ 32
  pub lost : u.lost < 2 ^ 32
  pub damaged : u.damaged < 2 ^ 32

pub record SceneFits (s : SceneRow) : Type 0 where
  pub first : s.first < 2 ^ 32
  pub pictures : s.pictures < 2 ^ 32
  pub repeated : s.repeated < 2 ^ 32
  pub longest : s.longest < 2 ^ 32
  pub score : s.score < 2 ^ 32
  pub peak : s.peak < 2 ^ 32
  pub change : s.change < 2 ^ 32

-- of every element
abbrev pub Each : {A : Type 0} → (A → Type 0) → List A → Type 0
Each P [] = Unit
Each P (x ∷ xs) = P x × Each P xs

pub each_at : {A : Type 0} (P : A → Type 0) (xs : List A) (j : ℕ) (z : A) → Each P xs → j < length xs →
    P (get_or xs j z)
each_at P [] j z e h = absurd (omega arith)
each_at P (x ∷ xs) zero z e h = e.0
each_at P (x ∷ xs) (suc j) z e h = each_at P xs j z e.1 (omega arith)

-- ---- one part alone, with anything behind it

-- a word at the front
word : (x : ℕ) → x < 2 ^ 32 → word32 (bytes_of 4 x ++ []) 0 ≡ x
word x h = word32-bytes [] [] x h

long : (x : ℕ) → x < 2 ^ 64 → word64 (bytes_of 8 x ++ []) 0 ≡ x
long x h = word64-bytes [] [] x h

pub header-back : (h : Header) (t : List ℕ) → HeaderFits h → header_of (header_bytes h ++ t) ≡ h
unfolding header_of header_bytes word32 word64 bytes_of record_length
header-back h t f =
    rw (
      word h.edition f.edition,
      word h.units (omega (arith, f.length)),
      word h.scenes (omega (arith, f.length)),
      word h.width f.width,
      word h.height f.height,
      word h.time f.time,
      word h.pid f.pid,
      word h.pictures f.pictures,
      word h.frames f.frames,
      word h.skipped f.skipped,
      word h.bad f.bad,
      long h.index f.index,
    )

pub unit-back : (u : UnitRow) (t : List ℕ) → UnitFits u → unit_in (unit_bytes u ++ t) ≡ u
unfolding unit_in unit_bytes word32 word64 bytes_of
unit-back u t f =
    rw (
      long u.least f.least,
      long u.greatest f.greatest,
      word u.size f.size,
      word u.packets f.packets,
      word u.lost f.lost,
      word u.damaged f.damaged,
    )

pub scene-back : (s : SceneRow) (t : List ℕ) → SceneFits s → scene_in (scene_bytes s ++ t) ≡ s
unfolding scene_in scene_bytes word32 bytes_of
scene-back s t f =
    rw (
      word s.first f.first,
      word s.pictures f.pictures,
      word s.repeated f.repeated,
      word s.longest f.longest,
      word s.score f.score,
      word s.peak f.peak,
      word s.change f.change,
    )

-- word 28 of a scene is zero
pub scene-zero : (s : SceneRow) (t : List ℕ) → word32 (scene_bytes s ++ t) 28 ≡ 0
unfolding scene_bytes word32 bytes_of
scene-zero s t = refl

-- ---- lengths

pub length-header : (h : Header) → length (header_bytes h) ≡ 64
unfolding header_bytes bytes_of
length-header h = refl

pub length-unit : (u : UnitRow) → length (unit_bytes u) ≡ 32
unfolding unit_bytes bytes_of
length-unit u = refl

pub length-scene : (s : SceneRow) → length (scene_bytes s) ≡ 32
unfolding scene_bytes bytes_of
length-scene s = refl

-- rows of any kind, 32 bytes each
module _ {A : Type 0} (f : A → List ℕ) (wide : (x : A) → length (f x) ≡ 32) where
  pub length-rows : (xs : List A) → length (end_to_end (map f xs)) ≡ 32 * length xs
  unfolding end_to_end
  length-rows [] = refl
  length-rows (x ∷ xs) = rw (length-append (f x) (end_to_end (map f xs)), wide x, length-rows xs) (omega arith)

  -- behind j rows stands row j
  pub drop-rows : (xs : List A) (t : List ℕ) (j : ℕ) → j ≤ length xs →
      drop (32 * j) (end_to_end (map f xs) ++ t) ≡ end_to_end (map f (drop j xs)) ++ t
  unfolding end_to_end
  drop-rows xs t zero h = refl
  drop-rows [] t (suc j) h = absurd (omega arith)
  drop-rows (x ∷ xs) t (suc j) h =
      let e : 32 * suc j ≡ length (f x) + 32 * j = omega (arith, wide x) in
      rw (
        e,
        append_assoc (f x) (end_to_end (map f xs)) t,
        drop-append-add (f x) (end_to_end (map f xs) ++ t)
            (32 * j),
      )
      (drop-rows xs t j (omega arith))

  pub row_at : (xs : List A) (t : List ℕ) (j : ℕ) (z : A) → j < length xs →
      drop (32 * j) (end_to_end (map f xs) ++ t) ≡ f (get_or xs j z) ++ (end_to_end (map f (drop (suc j) xs)) ++ t)
  unfolding end_to_end
  row_at xs t j z h =
      rw (drop-rows xs t j (omega arith), drop-cons xs j z h)
      (append_assoc (f (get_or xs j z)) (end_to_end (map f (drop (suc j) xs))) t)

pub length-record : (h : Header) (us : List UnitRow) (ss : List SceneRow) →
    length (record_bytes h us ss) ≡ record_length (length us) (length ss)
unfolding record_bytes record_length
length-record h us ss =
    simp (length-append, length-header, length-rows unit_bytes length-unit, length-rows scene_bytes length-scene)
    (omega arith)

-- ---- the whole record

-- the header's figures and the rows of a record, each of which fits its words; the counts are the rows' lengths
pub record Figures (h : Header) (us : List UnitRow) (ss : List SceneRow) : Type 0 where
  pub header : HeaderFits h
  pub units : length us ≡ h.units
  pub scenes : length ss ≡ h.scenes
  pub unit_rows : Each UnitFits us
  pub scene_rows : Each SceneFits ss

-- the record in its three parts
pub parts-of : (h : Header) (us : List UnitRow) (ss : List SceneRow) →
    record_bytes h us ss ≡ header_bytes h ++ (end_to_end (map unit_bytes us) ++ end_to_end (map scene_bytes ss))
unfolding record_bytes
parts-of h us ss = append_assoc (header_bytes h) (end_to_end (map unit_bytes us)) (end_to_end (map scene_bytes ss))

-- what stands at unit row j, and at scene row j
pub unit-place : (h : Header) (us : List UnitRow) (ss : List SceneRow) (j : ℕ) (z : UnitRow) → j < length us →
    drop (unit_place j) (record_bytes h us ss)
    ≡ unit_bytes (get_or us j z) ++ (end_to_end (map unit_bytes (drop (suc j) us)) ++ end_to_end (map scene_bytes ss))
unfolding unit_place
unit-place h us ss j z k =
    let e : 64 + 32 * j ≡ length (header_bytes h) + 32 * j = omega (arith, length-header h) in
    rw (
      parts-of h us ss,
      e,
      drop-append-add (header_bytes h) (end_to_end (map unit_bytes us) ++ end_to_end (map scene_bytes ss)) (32 * j),
    )
    (row_at unit_bytes length-unit us (end_to_end (map scene_bytes ss)) j z k)

pub scene-place : (h : Header) (us : List UnitRow) (ss : List SceneRow) (j : ℕ) (z : SceneRow) → j < length ss →
    drop (scene_offset (length us) + 32 * j) (record_bytes h us ss)
    ≡ scene_bytes (get_or ss j z) ++ end_to_end (map scene_bytes (drop (suc j) ss))
unfolding record_bytes scene_offset
scene-place h us ss j z k =
    let p = header_bytes h ++ end_to_end (map unit_bytes us) in
    let n : length p ≡ 64 + 32 * length us =
    simp (length-append, length-header, length-rows unit_bytes length-unit) in
    let e : 64 + 32 * length us + 32 * j ≡ length p + 32 * j = omega arith in
    rw (e, drop-append-add p (end_to_end (map scene_bytes ss)) (32 * j))
    (rw (append-nil (end_to_end (map scene_bytes ss)), append-nil (end_to_end (map scene_bytes (drop (suc j) ss))))
    at (row_at scene_bytes length-scene ss [] j z k))

module _ (h : Header) (us : List UnitRow) (ss : List SceneRow) (f : Figures h us ss) where
  pub header_read : header_of (record_bytes h us ss) ≡ h
  header_read =
      rw (parts-of h us ss)
      (header-back h (end_to_end (map unit_bytes us) ++ end_to_end (map scene_bytes ss)) f.header)

  pub unit-read : (j : ℕ) (z : UnitRow) → j < length us → unit_at (record_bytes h us ss) j ≡ get_or us j z
  unfolding unit_at unit_in
  unit-read j z k =
      ap unit_in (unit-place h us ss j z k)
      ∙ unit-back (get_or us j z) (end_to_end (map unit_bytes (drop (suc j) us)) ++ end_to_end (map scene_bytes ss))
      (each_at UnitFits us j z f.unit_rows k)

  units-read : word32 (record_bytes h us ss) 8 ≡ length us
  unfolding header_of
  units-read = ap (λ (x : Header). x.units) header_read ∙ sym f.units

  scene-place-read : (j : ℕ) (z : SceneRow) → j < length ss →
      drop (scene_place (record_bytes h us ss) j) (record_bytes h us ss)
      ≡ scene_bytes (get_or ss j z) ++ end_to_end (map scene_bytes (drop (suc j) ss))
  unfolding scene_place
  scene-place-read j z k = rw units-read (scene-place h us ss j z k)

  pub scene-read : (j : ℕ) (z : SceneRow) → j < length ss → scene_at (record_bytes h us ss) j ≡ get_or ss j z
  unfolding scene_at scene_in
  scene-read j z k =
      ap scene_in (scene-place-read j z k)
      ∙ scene-back (get_or ss j z) (end_to_end (map scene_bytes (drop (suc j) ss)))
      (each_at SceneFits ss j z f.scene_rows k)

-- two sets of figures that fit never have one record
no_unit : UnitRow
no_unit = record { least = 0; greatest = 0; size = 0; packets = 0; lost = 0; damaged = 0 }

no_scene : SceneRow
no_scene = record { first = 0; pictures = 0; repeated = 0; longest = 0; score = 0; peak = 0; change = 0 }

pub record-injective : (h h' : Header) (us us' : List UnitRow) (ss ss' : List SceneRow) → Figures h us ss →
    Figures h' us' ss' →
    record_bytes h us ss ≡ record_bytes h' us' ss' → (h ≡ h') × (us ≡ us') × (ss ≡ ss')
record-injective h h' us us' ss ss' f f' e =
    let eh : h ≡ h' = sym (header_read h us ss f) ∙ (ap header_of e ∙ header_read h' us' ss' f') in
    let eu : length us ≡ length us' = f.units ∙ (ap (λ (x : Header). x.units) eh ∙ sym f'.units) in
    let es : length ss ≡ length ss' = f.scenes ∙ (ap (λ (x : Header). x.scenes) eh ∙ sym f'.scenes) in (
      eh,
      ext_get_or no_unit us us' eu
          (λ j k. sym (unit-read h us ss f j no_unit k)
          ∙ (ap (λ (r : List ℕ). unit_at r j) e ∙ unit-read h' us' ss' f' j no_unit (omega arith))),
      ext_get_or no_scene ss ss' es
          (λ j k. sym (scene-read h us ss f j no_scene k)
          ∙ (ap (λ (r : List ℕ). scene_at r j) e ∙ scene-read h' us' ss' f' j no_scene (omega arith))),
    )
