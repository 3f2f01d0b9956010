-- The record of a sample that can be sealed is always allowed, and reading it refuses nothing.
use Prim.Native.Nat.{ℕ, ◌+◌, ◌*◌, ◌≤◌, ◌<◌}
use native.Mathlib.Omega.{arith}
use mathlib.Core.Path.{◌≡◌, refl, ap, ◌∙◌}
use mathlib.Core.List.{List, [], ◌∷◌}
use mathlib.Core.Bool.{Bool, true, false, ◌||◌}
use lib.ListN.{length, get_or}
use lib.Dec.{eqb}
use borrow.Author.Tests.{le-leb, lt-ltb, eq-eqb}
use Rattle.rules.specs.declared.Opening.{Opening}
use Rattle.rules.specs.declared.Header.{Header}
use Rattle.rules.specs.declared.UnitRow.{UnitRow}
use Rattle.rules.specs.declared.SceneRow.{SceneRow}
use Rattle.std.specs.Prelude.{Ok}
use Rattle.rules.specs.Bytes.{within, word32, Bytes}
use Rattle.rules.specs.Refusals.{none, fault, unless, ◌or_else◌}
use Rattle.rules.specs.Editions.{is_edition, knows_damage}
use Rattle.rules.specs.Opening.{good_size, good_time, good_pid, opening_fault}
use Rattle.rules.specs.Capture.{units, frame_count, skipped_count}
use Rattle.rules.specs.Pictures.{picture_count}
use Rattle.rules.specs.Record.{record_length}
use Rattle.rules.specs.Reading.{header_of, unit_at, scene_at, allowed, reading_fault, row_fault, unit_fault}
use Rattle.rules.specs.Reading.{scene_fault, header_answer, unit_answer, scene_answer}
use Rattle.rules.specs.Seal.{scenes, header, sealed, sealed_length, seal_fault}
use Rattle.record_laws.proofs.Record.{Each, Figures, length-record, header_read, unit-read, scene-read}
use Rattle.record_laws.proofs.Allowed.{good_header, good_unit, good_units, good_scenes, good_figures, allowed-figures}
use Rattle.record_laws.proofs.Allowed.{record-allowed}
use Rattle.capture_laws.proofs.Bounds.{skipped-few}
use Rattle.luma_laws.proofs.Scenes.{Joins, pictures-most, sample-joins}
use Rattle.luma_laws.proofs.Most.{sample-few}
use Rattle.record_laws.proofs.Ranges.{Sealable, sealable, UnitRange, units-most, unit-ranges, unit-zeros, figures-fit}

-- ---- the conditions on figures

opened : (o : Opening) → opening_fault o ≡ none →
    (good_size o.width o.height ≡ true) × (good_time o.time ≡ true) × (good_pid o.pid ≡ true)
    × (is_edition o.edition ≡ true)
unfolding opening_fault
opened o = go (good_size o.width o.height) (good_time o.time) (good_pid o.pid) (is_edition o.edition)
  where
    never : {k p : ℕ} → fault k p ≡ none → ⊥
    never e = let z : ◌≡◌ {A = ℕ} 0 1 = cc in omega arith

    go : (a b c d : Bool) → (unless a 1 or_else unless b 2 or_else unless c 3 or_else unless d 20) ≡ none →
        (a ≡ true) × (b ≡ true) × (c ≡ true) × (d ≡ true)
    go true true true true h = (refl, refl, refl, refl)
    go true true true false h = absurd (never h)
    go true true false d h = absurd (never h)
    go true false c d h = absurd (never h)
    go false b c d h = absurd (never h)

inside : (low high x : ℕ) → low ≤ x → x ≤ high → within low high x ≡ true
inside low high x h k = rw (le-leb low x h, le-leb x high k)

all-units : (n : ℕ) (known : Bool) (us : List UnitRow) → Each (UnitRange n) us →
    (known ≡ false → Each (λ u. u.damaged ≡ 0) us) → good_units known us ≡ true
unfolding good_units good_unit
all-units n known [] h z = refl
all-units n known (u ∷ us) h z =
    let r = h.0 in
    let d : known || eqb u.damaged 0 ≡ true = zero_or known (λ e. (z e).0) in
    rw (
      le-leb u.least u.greatest r.ordered,
      le-leb 1 u.packets r.some,
      eq-eqb u.size (184 * u.packets) r.size,
      d,
      all-units n known us h.1 (λ e. (z e).1),
    )
  where
    zero_or : (t : Bool) → (t ≡ false → u.damaged ≡ 0) → t || eqb u.damaged 0 ≡ true
    zero_or true e = refl
    zero_or false e = eq-eqb u.damaged 0 (e refl)

all-scenes : (n from : ℕ) (ss : List SceneRow) → Joins n from ss → good_scenes n from ss ≡ true
unfolding good_scenes
all-scenes n from [] h = eq-eqb from n h
all-scenes n from (s ∷ ss) h =
    rw (eq-eqb s.first from h.0, le-leb 1 s.pictures h.1, all-scenes n (from + s.pictures) ss h.2)

-- scenes that join have at least one among them, if there is a picture
some-scene : (n : ℕ) (ss : List SceneRow) → 1 ≤ n → Joins n 0 ss → 1 ≤ length ss
some-scene n [] h e = absurd (omega arith)
some-scene n (s ∷ ss) h j = omega arith

module _ (o : Opening) (capture luma : List ℕ) (h : Sealable o capture luma) (bc : Bytes capture)
    (bl : Bytes luma) where
  joins : Joins (picture_count o luma) 0 (scenes o luma)
  joins = sample-joins o luma h.picture

  good-header : good_header (header o capture luma) ≡ true
  unfolding good_header header
  good-header =
      let g = opened o h.opened in
      rw (
        g.3,
        inside 1 750 (length (units o capture)) h.unit (units-most o capture luma h),
        inside 1 250 (length (scenes o luma)) (some-scene (picture_count o luma) (scenes o luma) h.picture joins)
            (sample-few o luma h.opened),
        inside 1 750 (picture_count o luma) h.picture (pictures-most o luma),
        g.0,
        g.1,
        g.2,
      )
      (le-leb (skipped_count capture) (frame_count capture) (skipped-few capture))

  known : good_units (knows_damage (header o capture luma).edition) (units o capture) ≡ true
  unfolding header
  known = all-units (length capture) (knows_damage o.edition) (units o capture) (unit-ranges o capture luma h bc)
      (unit-zeros o capture)

  good-figures : good_figures (header o capture luma) (units o capture) (scenes o luma) ≡ true
  unfolding good_figures
  good-figures =
      rw (good-header, known)
      (unfold header in all-scenes (picture_count o luma) 0 (scenes o luma) joins)

  allowed-sealed : allowed (sealed o capture luma) ≡ true
  unfolding sealed
  allowed-sealed =
      allowed-figures (header o capture luma) (units o capture) (scenes o luma) (figures-fit o capture luma h bc bl)
      ∙ good-figures

-- ---- THE LAW: what a seal writes, the reader allows

pub sealed-allowed : (o : Opening) (capture luma : List ℕ) (n : ℕ) → seal_fault o capture luma n ≡ none →
    Bytes capture → Bytes luma →
    allowed (sealed o capture luma) ≡ true
sealed-allowed o capture luma n e bc bl = allowed-sealed o capture luma (sealable o capture luma n e) bc bl

pub sealed-length : (o : Opening) (capture luma : List ℕ) →
    length (sealed o capture luma) ≡ sealed_length o capture luma
unfolding sealed sealed_length
sealed-length o capture luma = length-record (header o capture luma) (units o capture) (scenes o luma)

pub sealed-read : (o : Opening) (capture luma : List ℕ) (n : ℕ) → seal_fault o capture luma n ≡ none →
    Bytes capture → Bytes luma →
    reading_fault (sealed o capture luma) ≡ none
unfolding reading_fault
sealed-read o capture luma n e bc bl =
    let r = sealed o capture luma in
    let a = sealed-allowed o capture luma n e bc bl in
    let w = (record-allowed r a).header.edition in
    let l : 64 ≤ length r = rw (sealed-length o capture luma) (unfold sealed_length record_length in omega arith) in
    rw (le-leb 64 (length r) l, w, a)

-- ---- and reads back as the figures that were sealed

module _ (o : Opening) (capture luma : List ℕ) (n : ℕ) (e : seal_fault o capture luma n ≡ none) (bc : Bytes capture)
    (bl : Bytes luma) where
  sealed-figures : Figures (header o capture luma) (units o capture) (scenes o luma)
  sealed-figures = figures-fit o capture luma (sealable o capture luma n e) bc bl

  header-sealed : header_of (sealed o capture luma) ≡ header o capture luma
  unfolding sealed
  header-sealed = header_read (header o capture luma) (units o capture) (scenes o luma) sealed-figures

  pub sealed-header : header_answer (sealed o capture luma) ≡ Ok (header o capture luma)
  unfolding header_answer
  sealed-header = rw (sealed-read o capture luma n e bc bl, header-sealed)

  pub sealed-unit : (j : ℕ) (z : UnitRow) → j < length (units o capture) →
      unit_answer (sealed o capture luma) j ≡ Ok (get_or (units o capture) j z)
  unfolding unit_answer unit_fault row_fault
  sealed-unit j z h =
      let u : word32 (sealed o capture luma) 8 ≡ length (units o capture) =
      unfold header_of header in ap (λ (x : Header). x.units) header-sealed in
      let r : unit_at (sealed o capture luma) j ≡ get_or (units o capture) j z =
      unfold sealed in unit-read (header o capture luma) (units o capture) (scenes o luma) sealed-figures j z h in
      rw (sealed-read o capture luma n e bc bl, u, lt-ltb j (length (units o capture)) h, r)

  pub sealed-scene : (j : ℕ) (z : SceneRow) → j < length (scenes o luma) →
      scene_answer (sealed o capture luma) j ≡ Ok (get_or (scenes o luma) j z)
  unfolding scene_answer scene_fault row_fault
  sealed-scene j z h =
      let u : word32 (sealed o capture luma) 16 ≡ length (scenes o luma) =
      unfold header_of header in ap (λ (x : Header). x.scenes) header-sealed in
      let r : scene_at (sealed o capture luma) j ≡ get_or (scenes o luma) j z =
      unfold sealed in scene-read (header o capture luma) (units o capture) (scenes o luma) sealed-figures j z h in
      rw (sealed-read o capture luma n e bc bl, u, lt-ltb j (length (scenes o luma)) h, r)
