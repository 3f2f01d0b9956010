-- What the reader allows: of a record that was made of figures, exactly figures that meet the conditions; and a
-- record that is allowed is the record of the figures read from it.
use Prim.Native.Nat.{ℕ, zero, suc, ◌+◌, ◌*◌, ◌^◌, ◌≤◌, ◌<◌}
use native.Mathlib.Omega.{arith}
use native.Mathlib.Nat.{add-zero}
use mathlib.Core.Path.{◌≡◌, refl, sym, ap, ◌∙◌}
use mathlib.Core.Bool.{Bool, true, false, ◌&&◌, ◌||◌}
use mathlib.Core.List.{List, [], ◌∷◌, ◌++◌, map, append_assoc, append-nil}
use lib.ListN.{length, drop, length-append, length-drop}
use lib.Seq.{drop-drop, drop-length, drop_at, get_or-drop}
use lib.Dec.{leb, eqb}
use borrow.Author.Tests.{eq-eqb, eqb-true, leb-true}
use Rattle.rules.specs.declared.Header.{Header}
use Rattle.rules.specs.declared.UnitRow.{UnitRow}
use Rattle.rules.specs.declared.SceneRow.{SceneRow}
use Rattle.rules.specs.Bytes.{pick, within, word32, bytes_of, end_to_end, table}
use Rattle.rules.specs.Editions.{is_edition, knows_damage}
use Rattle.rules.specs.Opening.{good_size, good_time, good_pid}
use Rattle.rules.specs.Record.{record_length, scene_offset, header_bytes, unit_bytes, scene_bytes, record_bytes}
use Rattle.rules.specs.Reading.{header_of, unit_place, scene_place, unit_at, scene_at, allowed_header, allowed_unit}
use Rattle.rules.specs.Reading.{allowed_units, allowed_scene, allowed_scenes, allowed_rows, allowed}
use Rattle.record_laws.proofs.Words.{EachByte, word32-bytes, bytes-word32, bytes-word64, word32-fits}
use Rattle.record_laws.proofs.Words.{word64-fits}
use Rattle.rules.proofs.Laws.Lists.{both, inside}
use Rattle.rules.specs.Reading.{unit_in, scene_in}
use Rattle.record_laws.proofs.Record.{HeaderFits, UnitFits, SceneFits, Each, Figures, unit-back, scene-back}
use Rattle.record_laws.proofs.Record.{scene-zero, length-header, length-unit, length-scene}
use Rattle.record_laws.proofs.Record.{length-rows, length-record, header-back, parts-of}

-- ---- tests

and-true : (a : Bool) → (a && true) ≡ a
and-true true = refl
and-true false = refl

pick-and : (a b : Bool) → pick a b false ≡ (a && b)
pick-and true b = refl
pick-and false b = refl

-- ---- the conditions, on figures

unfoldable pub good_header : Header → Bool
good_header h =
    is_edition h.edition
    && within 1 750 h.units && within 1 250 h.scenes && within 1 750 h.pictures
    && good_size h.width h.height && good_time h.time && good_pid h.pid
    && leb h.skipped h.frames

-- by whether damage is known
unfoldable pub good_unit : Bool → UnitRow → Bool
good_unit known u =
    leb u.least u.greatest && leb 1 u.packets && eqb u.size (184 * u.packets) &&
    (known || eqb u.damaged 0)

unfoldable pub good_units : Bool → List UnitRow → Bool
good_units known [] = true
good_units known (u ∷ us) = good_unit known u && good_units known us

-- from picture `from` on, without gap, to picture N
unfoldable pub good_scenes : ℕ → ℕ → List SceneRow → Bool
good_scenes pictures from [] = eqb from pictures
good_scenes pictures from (s ∷ ss) =
    (eqb s.first from && leb 1 s.pictures) && good_scenes pictures (from + s.pictures) ss

unfoldable pub good_figures : Header → List UnitRow → List SceneRow → Bool
good_figures h us ss = good_header h && (good_units (knows_damage h.edition) us && good_scenes h.pictures 0 ss)

-- ---- a record that was made of figures is allowed exactly where they meet the conditions

word : (x : ℕ) → x < 2 ^ 32 → word32 (bytes_of 4 x ++ []) 0 ≡ x
word x h = word32-bytes [] [] x h

-- the words of a header that are no figures, and its figures
record Words (h : Header) (r : List ℕ) : Type 0 where
  length : word32 r 4 ≡ record_length h.units h.scenes
  unit_offset : word32 r 12 ≡ 64
  scene_offset : word32 r 20 ≡ scene_offset h.units
  figures : header_of r ≡ h

header-words : (h : Header) (t : List ℕ) → HeaderFits h → Words h (header_bytes h ++ t)
unfolding header_bytes word32 bytes_of record_length scene_offset
header-words h t f =
    record {
      length = word (record_length h.units h.scenes) f.length;
      unit_offset = refl;
      scene_offset = word (scene_offset h.units) (omega (arith, f.length));
      figures = header-back h t f;
    }

allowed-header : (h : Header) (r : List ℕ) (n : ℕ) → Words h r → n ≡ record_length h.units h.scenes →
    allowed_header n r ≡ good_header h
unfolding allowed_header good_header header_of
allowed-header h r n w e =
    let u : word32 r 8 ≡ h.units = ap (λ (x : Header). x.units) w.figures in
    let s : word32 r 16 ≡ h.scenes = ap (λ (x : Header). x.scenes) w.figures in
    let a = eq-eqb (word32 r 4) n (w.length ∙ sym e) in
    let b : eqb (word32 r 4) (record_length (word32 r 8) (word32 r 16)) ≡ true = rw (u, s) (eq-eqb _ _ w.length) in
    let c : eqb (word32 r 20) (scene_offset (word32 r 8)) ≡ true = rw u (eq-eqb _ _ w.scene_offset) in
    rw (a, w.unit_offset, ← w.figures, b, c) (simp and-true)

allowed-unit : (known : Bool) (u : UnitRow) (t : List ℕ) → UnitFits u →
    allowed_unit known (unit_bytes u ++ t) ≡ good_unit known u
unfolding allowed_unit good_unit unit_in
allowed-unit known u t f = ap (good_unit known) (unit-back u t f)

allowed-units : (known : Bool) (us : List UnitRow) (t : List ℕ) → Each UnitFits us →
    allowed_units known (length us) (end_to_end (map unit_bytes us) ++ t) ≡ good_units known us
unfolding allowed_units good_units end_to_end
allowed-units known [] t f = refl
allowed-units known (u ∷ us) t f =
    let more = end_to_end (map unit_bytes us) ++ t in
    rw (
      append_assoc (unit_bytes u) (end_to_end (map unit_bytes us)) t,
      drop_at (unit_bytes u) more 32 (length-unit u),
      allowed-unit known u more f.0,
      allowed-units known us t f.1,
    )

allowed-scene : (from : ℕ) (s : SceneRow) (t : List ℕ) → SceneFits s →
    allowed_scene from (scene_bytes s ++ t) ≡ (eqb s.first from && leb 1 s.pictures)
unfolding allowed_scene scene_in
allowed-scene from s t f =
    let at : SceneRow → Bool = λ x. eqb x.first from && leb 1 x.pictures in
    let e : allowed_scene from (scene_bytes s ++ t) ≡ at (scene_in (scene_bytes s ++ t)) =
    rw (scene-zero s t, and-true) in
    e ∙ ap at (scene-back s t f)

allowed-scenes : (pictures from : ℕ) (ss : List SceneRow) (t : List ℕ) → Each SceneFits ss →
    allowed_scenes pictures (length ss) from (end_to_end (map scene_bytes ss) ++ t) ≡ good_scenes pictures from ss
unfolding allowed_scenes good_scenes end_to_end scene_in
allowed-scenes pictures from [] t f = refl
allowed-scenes pictures from (s ∷ ss) t f =
    let more = end_to_end (map scene_bytes ss) ++ t in
    let n : word32 (scene_bytes s ++ more) 4 ≡ s.pictures =
    ap (λ (x : SceneRow). x.pictures) (scene-back s more f.0) in
    rw (
      append_assoc (scene_bytes s) (end_to_end (map scene_bytes ss)) t,
      drop_at (scene_bytes s) more 32 (length-scene s),
      allowed-scene from s more f.0,
      n,
      allowed-scenes pictures (from + s.pictures) ss t f.1,
    )

-- the rows' bytes
rows-place : (h : Header) (us : List UnitRow) (ss : List SceneRow) →
    drop 64 (record_bytes h us ss) ≡ end_to_end (map unit_bytes us) ++ end_to_end (map scene_bytes ss)
rows-place h us ss = rw (parts-of h us ss)
    (drop_at (header_bytes h) (end_to_end (map unit_bytes us) ++ end_to_end (map scene_bytes ss)) 64
    (length-header h))

scenes-place : (h : Header) (us : List UnitRow) (ss : List SceneRow) →
    drop (scene_offset (length us)) (record_bytes h us ss) ≡ end_to_end (map scene_bytes ss)
unfolding record_bytes scene_offset
scenes-place h us ss =
    drop_at (header_bytes h ++ end_to_end (map unit_bytes us)) (end_to_end (map scene_bytes ss)) (64 + 32 * length us)
    (simp (length-append, length-header, length-rows unit_bytes length-unit))

pub allowed-figures : (h : Header) (us : List UnitRow) (ss : List SceneRow) → Figures h us ss →
    allowed (record_bytes h us ss) ≡ good_figures h us ss
unfolding allowed allowed_rows good_figures header_of
allowed-figures h us ss f =
    let r = record_bytes h us ss in
    let w : Words h r =
    rw (parts-of h us ss)
    (header-words h (end_to_end (map unit_bytes us) ++ end_to_end (map scene_bytes ss)) f.header) in
    let n : length r ≡ record_length h.units h.scenes = length-record h us ss ∙ (rw (f.units, f.scenes)) in
    let u : word32 r 8 ≡ length us = ap (λ (x : Header). x.units) w.figures ∙ sym f.units in
    let s : word32 r 16 ≡ length ss = ap (λ (x : Header). x.scenes) w.figures ∙ sym f.scenes in
    let p : word32 r 40 ≡ h.pictures = ap (λ (x : Header). x.pictures) w.figures in
    let e : word32 r 0 ≡ h.edition = ap (λ (x : Header). x.edition) w.figures in
    let units : allowed_units (knows_damage (word32 r 0)) (word32 r 8) (drop 64 r)
    ≡ good_units (knows_damage h.edition) us =
    rw (e, u, rows-place h us ss)
    (allowed-units (knows_damage h.edition) us (end_to_end (map scene_bytes ss)) f.unit_rows) in
    let scenes : allowed_scenes (word32 r 40) (word32 r 16) 0 (drop (scene_offset (word32 r 8)) r)
    ≡ good_scenes h.pictures 0 ss =
    rw (p, s, u, scenes-place h us ss) (rw append-nil at (allowed-scenes h.pictures 0 ss [] f.scene_rows)) in
    rw (pick-and, allowed-header h r (length r) w n, units, scenes)

-- ---- what an allowed record shows

pub record HeaderAllowed (n : ℕ) (r : List ℕ) : Type 0 where
  pub edition : is_edition (word32 r 0) ≡ true
  pub length : word32 r 4 ≡ n
  pub whole : word32 r 4 ≡ record_length (word32 r 8) (word32 r 16)
  pub unit_offset : word32 r 12 ≡ 64
  pub scenes_from : word32 r 20 ≡ scene_offset (word32 r 8)
  pub units_more : 1 ≤ word32 r 8
  pub units_less : word32 r 8 ≤ 750
  pub scenes_more : 1 ≤ word32 r 16
  pub scenes_less : word32 r 16 ≤ 250
  pub pictures_more : 1 ≤ word32 r 40
  pub pictures_less : word32 r 40 ≤ 750
  pub size : good_size (word32 r 24) (word32 r 28) ≡ true
  pub time : good_time (word32 r 32) ≡ true
  pub pid : good_pid (word32 r 36) ≡ true
  pub skipped : word32 r 48 ≤ word32 r 44

pub header-allowed : (n : ℕ) (r : List ℕ) → allowed_header n r ≡ true → HeaderAllowed n r
unfolding allowed_header
header-allowed n r e =
    let a = both _ _ e in
    let b = both _ _ a.0 in
    let c = both _ _ b.0 in
    let d = both _ _ c.0 in
    let n40 = both _ _ d.0 in
    let n16 = both _ _ n40.0 in
    let n8 = both _ _ n16.0 in
    let n20 = both _ _ n8.0 in
    let n12 = both _ _ n20.0 in
    let n4 = both _ _ n12.0 in
    let n0 = both _ _ n4.0 in
    record {
      edition = n0.0;
      length = eqb-true _ _ n0.1;
      whole = eqb-true _ _ n4.1;
      unit_offset = eqb-true _ _ n12.1;
      scenes_from = eqb-true _ _ n20.1;
      units_more = (inside 1 _ _ n8.1).0;
      units_less = (inside 1 _ _ n8.1).1;
      scenes_more = (inside 1 _ _ n16.1).0;
      scenes_less = (inside 1 _ _ n16.1).1;
      pictures_more = (inside 1 _ _ n40.1).0;
      pictures_less = (inside 1 _ _ n40.1).1;
      size = d.1;
      time = c.1;
      pid = b.1;
      skipped = leb-true _ _ a.1;
    }

-- ---- read and written again

bytes_drop : (n : ℕ) (r : List ℕ) → EachByte r → EachByte (drop n r)
bytes_drop n r b i = rw (get_or-drop n r i 0) (b (n + i))

header-again : (r : List ℕ) → EachByte r → 64 ≤ length r → HeaderAllowed (length r) r →
    header_bytes (header_of r) ++ drop 64 r ≡ r
unfolding header_bytes header_of
header-again r b k a =
    let at : (i : ℕ) → i + 4 ≤ 64 → bytes_of 4 (word32 r i) ++ drop (i + 4) r ≡ drop i r =
    λ i l. bytes-word32 r i b (omega arith) in
    let a4 = rw a.whole at (at 4 (omega arith)) in
    let a12 = rw a.unit_offset at (at 12 (omega arith)) in
    let a20 = rw a.scenes_from at (at 20 (omega arith)) in
    simp append_assoc
    (rw (
      bytes-word64 r 56 b k,
      at 52 (omega arith),
      at 48 (omega arith),
      at 44 (omega arith),
      at 40 (omega arith),
      at 36 (omega arith),
      at 32 (omega arith),
      at 28 (omega arith),
      at 24 (omega arith),
      a20,
      at 16 (omega arith),
      a12,
      at 8 (omega arith),
      a4,
      at 0 (omega arith),
    ))

unit-again : (b : List ℕ) → EachByte b → 32 ≤ length b → unit_bytes (unit_in b) ++ drop 32 b ≡ b
unfolding unit_bytes unit_in
unit-again b y k =
    let at : (i : ℕ) → i + 4 ≤ 32 → bytes_of 4 (word32 b i) ++ drop (i + 4) b ≡ drop i b =
    λ i l. bytes-word32 b i y (omega arith) in
    simp append_assoc (rw (
      at 28 (omega arith),
      at 24 (omega arith),
      at 20 (omega arith),
      at 16 (omega arith),
      bytes-word64 b 8 y (omega arith),
      bytes-word64 b 0 y (omega arith),
    ))

scene-again : (b : List ℕ) → EachByte b → 32 ≤ length b → word32 b 28 ≡ 0 → scene_bytes (scene_in b) ++ drop 32 b ≡ b
unfolding scene_bytes scene_in
scene-again b y k z =
    let at : (i : ℕ) → i + 4 ≤ 32 → bytes_of 4 (word32 b i) ++ drop (i + 4) b ≡ drop i b =
    λ i l. bytes-word32 b i y (omega arith) in
    let a28 = rw z at (at 28 (omega arith)) in
    simp append_assoc
    (rw (
      a28,
      at 24 (omega arith),
      at 20 (omega arith),
      at 16 (omega arith),
      at 12 (omega arith),
      at 8 (omega arith),
      at 4 (omega arith),
      at 0 (omega arith),
    ))

-- n rows of any kind from row j on, of a string whose rows begin at place p
module _ {A : Type 0} (row : A → List ℕ) (r : List ℕ) (p : ℕ) (read : ℕ → A) where
  rows-again : (n j : ℕ) →
      ((i : ℕ) → j ≤ i → i < j + n → row (read i) ++ drop (p + 32 * i + 32) r ≡ drop (p + 32 * i) r) →
      end_to_end (map row (table n j read)) ++ drop (p + 32 * (j + n)) r ≡ drop (p + 32 * j) r
  unfolding end_to_end table
  rows-again zero j h = rw (add-zero j)
  rows-again (suc n) j h =
      let e : p + 32 * (j + suc n) ≡ p + 32 * (suc j + n) = omega arith in
      let g : p + 32 * j + 32 ≡ p + 32 * suc j = omega arith in
      rw (append_assoc (row (read j)), e, rows-again n (suc j) (λ i a b. h i (omega arith) (omega arith)), ← g)
      (h j (omega arith) (omega arith))

  rows_all : (n : ℕ) → ((i : ℕ) → i < n → row (read i) ++ drop (p + 32 * i + 32) r ≡ drop (p + 32 * i) r) →
      end_to_end (map row (table n 0 read)) ++ drop (p + 32 * n) r ≡ drop p r
  rows_all n h =
      let e : p + 32 * (0 + n) ≡ p + 32 * n = omega arith in
      let g : p + 32 * 0 ≡ p = omega arith in
      rw (e, g) at (rows-again n 0 (λ i a b. h i (omega arith)))

-- every scene row of an allowed record is allowed, so its word 28 is zero
scene-zero-allowed : (from : ℕ) (b : List ℕ) → allowed_scene from b ≡ true → word32 b 28 ≡ 0
unfolding allowed_scene
scene-zero-allowed from b e =
    eqb-true (word32 b 28) 0 (both (eqb (word32 b 0) from && leb 1 (word32 b 4)) (eqb (word32 b 28) 0) e).1

scenes-allowed : (pictures n from : ℕ) (b : List ℕ) → allowed_scenes pictures n from b ≡ true → (i : ℕ) → i < n →
    word32 (drop (32 * i) b) 28 ≡ 0
unfolding allowed_scenes
scenes-allowed pictures zero from b e i h = absurd (omega arith)
scenes-allowed pictures (suc n) from b e zero h =
    scene-zero-allowed from b
    (both (allowed_scene from b) (allowed_scenes pictures n (from + word32 b 4) (drop 32 b)) e).0
scenes-allowed pictures (suc n) from b e (suc i) h =
    let g : 32 * suc i ≡ 32 + 32 * i = omega arith in
    let x = both (allowed_scene from b) (allowed_scenes pictures n (from + word32 b 4) (drop 32 b)) e in
    rw (g, ← drop-drop (32 * i) 32 b)
    (scenes-allowed pictures n (from + word32 b 4) (drop 32 b) x.1 i (omega arith))

-- an allowed record's header and rows
pub record RecordAllowed (r : List ℕ) : Type 0 where
  pub header : HeaderAllowed (length r) r
  pub units : allowed_units (knows_damage (word32 r 0)) (word32 r 8) (drop 64 r) ≡ true
  pub scenes : allowed_scenes (word32 r 40) (word32 r 16) 0 (drop (scene_offset (word32 r 8)) r) ≡ true

pub record-allowed : (r : List ℕ) → allowed r ≡ true → RecordAllowed r
unfolding allowed allowed_rows
record-allowed r e =
    let x = both _ _ (rw pick-and at e) in
    let y = both _ _ x.1 in
    record { header = header-allowed (length r) r x.0; units = y.0; scenes = y.1 }

-- the rows of a record
unfoldable pub units_read : List ℕ → List UnitRow
units_read r = table (word32 r 8) 0 (unit_at r)

unfoldable pub scenes_read : List ℕ → List SceneRow
scenes_read r = table (word32 r 16) 0 (scene_at r)

module _ (r : List ℕ) (b : EachByte r) (a : RecordAllowed r) where
  long-enough : 64 + 32 * (word32 r 8 + word32 r 16) ≡ length r
  unfolding record_length
  long-enough = let h = a.header in sym h.whole ∙ h.length

  units-again : end_to_end (map unit_bytes (units_read r)) ++ drop (64 + 32 * word32 r 8) r ≡ drop 64 r
  unfolding units_read unit_at unit_place unit_in
  units-again =
      let n = long-enough in
      rows_all unit_bytes r 64 (unit_at r) (word32 r 8)
      (λ i k.
      rw (drop-drop 32 (64 + 32 * i) r) at
      (unit-again (drop (64 + 32 * i) r) (bytes_drop (64 + 32 * i) r b) (simp length-drop (omega arith))))

  scenes-again : end_to_end (map scene_bytes (scenes_read r)) ++ drop (64 + 32 * word32 r 8 + 32 * word32 r 16) r
      ≡ drop (64 + 32 * word32 r 8) r
  unfolding scenes_read scene_at scene_place scene_in scene_offset
  scenes-again =
      let n = long-enough in
      let zero-at : (i : ℕ) → i < word32 r 16 → word32 (drop (64 + 32 * word32 r 8 + 32 * i) r) 28 ≡ 0 =
      λ i k.
      rw (drop-drop (32 * i) (64 + 32 * word32 r 8) r) at
      (scenes-allowed (word32 r 40) (word32 r 16) 0 (drop (64 + 32 * word32 r 8) r) a.scenes i k) in
      rows_all scene_bytes r (64 + 32 * word32 r 8) (scene_at r) (word32 r 16)
      (λ i k.
      rw (drop-drop 32 (64 + 32 * word32 r 8 + 32 * i) r) at
      (scene-again (drop (64 + 32 * word32 r 8 + 32 * i) r) (bytes_drop (64 + 32 * word32 r 8 + 32 * i) r b)
      (simp length-drop (omega arith)) (zero-at i k)))

  rest-again : drop (64 + 32 * word32 r 8 + 32 * word32 r 16) r ≡ []
  rest-again =
      let n = long-enough in
      let e : 64 + 32 * word32 r 8 + 32 * word32 r 16 ≡ length r = omega arith in
      rw e (drop-length r)

  again : record_bytes (header_of r) (units_read r) (scenes_read r) ≡ r
  again =
      let n = long-enough in
      let s : end_to_end (map scene_bytes (scenes_read r)) ≡ drop (64 + 32 * word32 r 8) r =
      rw append-nil at (rw rest-again at scenes-again) in
      rw (parts-of (header_of r) (units_read r) (scenes_read r), s, units-again)
      (header-again r b (omega arith) a.header)

-- an allowed record is the record of the figures read from it
pub record-again : (r : List ℕ) → EachByte r → allowed r ≡ true →
    record_bytes (header_of r) (units_read r) (scenes_read r) ≡ r
record-again r b e = again r b (record-allowed r e)

-- ---- the figures read from an allowed record fit their words, and meet the conditions

pub unit-fits : (r : List ℕ) → EachByte r → (j : ℕ) → UnitFits (unit_at r j)
unfolding unit_at unit_in
unit-fits r b j =
    let t = drop (unit_place j) r in
    let y = bytes_drop (unit_place j) r b in
    record {
      least = word64-fits t 0 y;
      greatest = word64-fits t 8 y;
      size = word32-fits t 16 y;
      packets = word32-fits t 20 y;
      lost = word32-fits t 24 y;
      damaged = word32-fits t 28 y;
    }

pub scene-fits : (r : List ℕ) → EachByte r → (j : ℕ) → SceneFits (scene_at r j)
unfolding scene_at scene_in
scene-fits r b j =
    let t = drop (scene_place r j) r in
    let y = bytes_drop (scene_place r j) r b in
    record {
      first = word32-fits t 0 y;
      pictures = word32-fits t 4 y;
      repeated = word32-fits t 8 y;
      longest = word32-fits t 12 y;
      score = word32-fits t 16 y;
      peak = word32-fits t 20 y;
      change = word32-fits t 24 y;
    }
