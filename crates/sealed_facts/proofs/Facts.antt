-- The statements of `specs/Facts` hold.
use Prim.Native.Nat.{ℕ, zero, suc, ◌+◌, ◌-◌, ◌*◌, ◌≤◌, ◌<◌}
use native.Mathlib.Omega.{arith}
use mathlib.Core.Path.{◌≡◌, refl, sym, ap, ◌∙◌}
use mathlib.Core.Bool.{Bool, true, false}
use mathlib.Core.List.{List, [], ◌++◌}
use lib.ListN.{length, get_or, drop, length-drop}
use lib.Seq.{get_or-drop}
use lib.Dec.{ltb}
use borrow.Author.Tests.{le-leb, eq-eqb, ltb-true}
use Rattle.rules.specs.declared.Opening.{Opening}
use Rattle.rules.specs.declared.Header.{Header}
use Rattle.rules.specs.declared.UnitRow.{UnitRow}
use Rattle.rules.specs.declared.SceneRow.{SceneRow}
use Rattle.rules.specs.Bytes.{pick, Bytes, word32, word64, table, end_to_end, All, and, empty}
use Rattle.rules.specs.Editions.{knows_damage}
use Rattle.rules.specs.Index.{index_bits}
use Rattle.rules.specs.Capture.{units, whole_frames, frame_count, skipped_count, bad_count}
use Rattle.rules.specs.Pictures.{picture_count}
use Rattle.rules.specs.Reading.{header_of, unit_at, scene_at}
use Rattle.rules.specs.Busiest.{most_scenes}
use Rattle.rules.specs.Seal.{scenes, unrepeated, index_from, index, header, sealed}
use Rattle.capture_laws.proofs.UnitsMore.{all_packets, all_lost, all_damaged}
use Rattle.luma_laws.proofs.Most.{none-has-more}
use Rattle.record_laws.proofs.Record.{each_at, Figures, header_read, unit-read, scene-read}
use Rattle.record_laws.proofs.Ranges.{Sealable, figures-fit, between, capture-most, unit-zeros}
use Rattle.std.specs.Prelude.{Ok}
use Rattle.record_verify.specs.Totals.{repeated_total, packets_total, lost_total, damaged_total, unrepeated_total}
use Rattle.record_verify.specs.Totals.{index_of_rows}
use Rattle.record_verify.specs.Marks.{Check, counted_in, header_checks, unit_checks, repeat_checks, sum_checks}
use Rattle.record_verify.specs.Marks.{start_checks, length_checks, scene_checks, units_checks, scenes_checks}
use Rattle.record_verify.specs.Marks.{index_checks}
use Rattle.record_verify.specs.Marks.{checks, first_failing, verdict_of}
use Rattle.reader_facts.specs.Facts.{carrying, carried_cells}
use Rattle.reader_facts.proofs.Cells.{records-counted, cells-counted}
use Rattle.reader_facts.proofs.Rows.{units-told}
use Rattle.reader_facts.proofs.Facts.{left}
use Rattle.sealed_facts.specs.Facts.{SoundUnit, SoundScene, LaterScene, EverySealReached, EverySealCaptureFits}
use Rattle.sealed_facts.specs.Facts.{EverySealPacketsFit, EverySealFewScenes, EverySealSoundUnits}
use Rattle.sealed_facts.specs.Facts.{EverySealUndamaged, EverySealSoundScenes, EverySealLaterScenes}
use Rattle.sealed_facts.specs.Facts.{EverySealLongScenes, EverySealCouldBe}
use Rattle.sealed_facts.proofs.Repeated.{all_repeated, sample-repeated}
use Rattle.sealed_facts.proofs.Units.{sound-unit}
use Rattle.sealed_facts.proofs.Scenes.{sound-scene, later-scenes, long-scenes}
use Rattle.sealed_facts.proofs.Rows as rows
use Rattle.sealed_facts.proofs.Carried.{carried-few, capture-holds}

-- for a row that is not there
no_unit : UnitRow
no_unit = record { least = 0; greatest = 0; size = 0; packets = 0; lost = 0; damaged = 0 }

no_scene : SceneRow
no_scene = record { first = 0; pictures = 0; repeated = 0; longest = 0; score = 0; peak = 0; change = 0 }

-- ---- checks that hold

abbrev Held : List Check → Type 0
Held cs = All (λ (c : Check). c.holds ≡ true) cs

all_hold : {cs : List Check} → Held cs → first_failing cs ≡ Ok tt
unfolding first_failing
all_hold empty = refl
all_hold (and h hs) = rw (h, all_hold hs)

held-append : {xs ys : List Check} → Held xs → Held ys → Held (xs ++ ys)
held-append empty k = k
held-append (and h hs) k = and h (held-append hs k)

held_rows : (f : ℕ → List Check) (n from : ℕ) → ((j : ℕ) → from ≤ j → j < from + n → Held (f j)) →
    Held (end_to_end (table n from f))
unfolding end_to_end table
held_rows f zero from h = empty
held_rows f (suc n) from h =
    held-append (h from (omega arith) (omega arith))
    (held_rows f n (suc from) (λ j low high. h j (omega arith) (omega arith)))

held-pick : (t : Bool) {cs : List Check} → (t ≡ true → Held cs) → Held (pick t cs [])
held-pick true h = h refl
held-pick false h = empty

-- ---- of a record that can be sealed

module _ (o : Opening) (capture luma : List ℕ) (w : Sealable o capture luma) (bc : Bytes capture)
    (bl : Bytes luma) where
  abbrev r : List ℕ
  r = sealed o capture luma

  fit : Figures (header o capture luma) (units o capture) (scenes o luma)
  fit = figures-fit o capture luma w bc bl

  header_is : header_of r ≡ header o capture luma
  unfolding sealed
  header_is = header_read (header o capture luma) (units o capture) (scenes o luma) fit

  edition-is : word32 r 0 ≡ o.edition
  edition-is = unfold header_of header in ap (λ (x : Header). x.edition) header_is

  time-is : word32 r 32 ≡ o.time
  time-is = unfold header_of header in ap (λ (x : Header). x.time) header_is

  pictures-are : word32 r 40 ≡ picture_count o luma
  pictures-are = unfold header_of header in ap (λ (x : Header). x.pictures) header_is

  index_is : word64 r 56 ≡ index_bits (index o capture luma)
  index_is = unfold header_of header in ap (λ (x : Header). x.index) header_is

  packets-are : packets_total r ≡ all_packets (units o capture)
  packets-are = unfold sealed in rows.packets-are (header o capture luma) (units o capture) (scenes o luma) fit

  lost-are : lost_total r ≡ all_lost (units o capture)
  lost-are = unfold sealed in rows.lost-are (header o capture luma) (units o capture) (scenes o luma) fit

  damaged-are : damaged_total r ≡ all_damaged (units o capture)
  damaged-are = unfold sealed in rows.damaged-are (header o capture luma) (units o capture) (scenes o luma) fit

  repeated-are : repeated_total r ≡ all_repeated (scenes o luma)
  repeated-are = unfold sealed in rows.repeated-are (header o capture luma) (units o capture) (scenes o luma) fit

  -- ---- 16

  unrepeated-are : unrepeated_total r ≡ unrepeated o luma
  unfolding unrepeated_total
  unrepeated-are =
      let a = pictures-are in
      let b = repeated-are in
      let c = sample-repeated o luma w.picture in
      omega arith

  rows-reach : index_of_rows r ≡ index o capture luma
  unfolding index_of_rows index index_from
  rows-reach = rw (unrepeated-are, pictures-are, packets-are, lost-are)

  reached : word64 r 56 ≡ index_bits (index_of_rows r)
  reached = index_is ∙ ap index_bits (sym rows-reach)

  -- ---- 1, 2 and 3

  frames-are : word32 r 44 ≡ length (whole_frames capture)
  frames-are = unfold header_of header frame_count in ap (λ (x : Header). x.frames) header_is

  carrying-are : word32 r 44 - word32 r 48 ≡ length (carrying capture)
  carrying-are =
      let f : word32 r 44 ≡ frame_count capture = unfold header_of header in
      ap (λ (x : Header). x.frames) header_is in
      let s : word32 r 48 ≡ skipped_count capture =
      unfold header_of header in ap (λ (x : Header). x.skipped) header_is in
      omega (arith, records-counted capture)

  counted-are : counted_in r ≤ carried_cells capture
  unfolding counted_in
  counted-are =
      let b : word32 r 52 ≡ bad_count o capture = unfold header_of header in ap (λ (x : Header). x.bad) header_is in
      omega (arith, packets-are, damaged-are, cells-counted o capture (between capture w.inside))

  packets-fit : counted_in r ≤ 348 * (word32 r 44 - word32 r 48)
  packets-fit = omega (arith, counted-are, carrying-are, carried-few capture bc)

  capture-fits : 24 + 16 * word32 r 44 + 42 * (word32 r 44 - word32 r 48) + 188 * counted_in r ≤ 268435456
  capture-fits =
      omega (
        arith,
        counted-are,
        carrying-are,
        frames-are,
        capture-holds capture w.inside,
        capture-most o capture luma w,
      )

  units-are : word32 r 8 ≡ length (units o capture)
  unfolding sealed
  units-are = units-told (header o capture luma) (units o capture) (scenes o luma) fit

  scenes-are : word32 r 16 ≡ length (scenes o luma)
  unfolding sealed
  scenes-are = rows.scenes-are (header o capture luma) (units o capture) (scenes o luma) fit

  few-scenes : word32 r 16 ≤ most_scenes (word32 r 32) (word32 r 40)
  few-scenes = rw (scenes-are, time-is, pictures-are) (none-has-more o luma w.opened)

  -- ---- the rows

  unit-is : (j : ℕ) → j < length (units o capture) → unit_at r j ≡ get_or (units o capture) j no_unit
  unfolding sealed
  unit-is j h = unit-read (header o capture luma) (units o capture) (scenes o luma) fit j no_unit h

  scene-is : (j : ℕ) → j < length (scenes o luma) → scene_at r j ≡ get_or (scenes o luma) j no_scene
  unfolding sealed
  scene-is j h = scene-read (header o capture luma) (units o capture) (scenes o luma) fit j no_scene h

  all-units : (j : ℕ) → j < word32 r 8 → SoundUnit j (unit_at r j)
  all-units j h =
      let k : j < length (units o capture) = omega (arith, units-are) in
      rw (unit-is j k) (sound-unit o capture luma w bc j no_unit k)

  undamaged : knows_damage (word32 r 0) ≡ false → (j : ℕ) → j < word32 r 8 → (unit_at r j).damaged ≡ 0
  undamaged e j h =
      let k : j < length (units o capture) = omega (arith, units-are) in
      rw (unit-is j k)
      (each_at (λ (u : UnitRow). u.damaged ≡ 0) (units o capture) j no_unit
      (unit-zeros o capture (rw edition-is at e)) k)

  all-scenes : (j : ℕ) → j < word32 r 16 → SoundScene j (scene_at r j)
  all-scenes j h =
      let k : j < length (scenes o luma) = omega (arith, scenes-are) in
      rw (scene-is j k) (sound-scene o luma w.picture w.opened bl j no_scene k)

  all-later : (j : ℕ) → 1 ≤ j → j < word32 r 16 → LaterScene (word32 r 40) (scene_at r j)
  all-later j some h =
      let k : j < length (scenes o luma) = omega (arith, scenes-are) in
      let n : 1 + (j - 1) ≡ j = omega arith in
      let a : get_or (drop 1 (scenes o luma)) (j - 1) no_scene ≡ get_or (scenes o luma) j no_scene =
      get_or-drop 1 (scenes o luma) (j - 1) no_scene ∙ ap (λ (i : ℕ). get_or (scenes o luma) i no_scene) n in
      let l = length-drop 1 (scenes o luma) in
      let N = picture_count o luma in
      rw (pictures-are, scene-is j k, ← a)
      (each_at (LaterScene N) (drop 1 (scenes o luma)) (j - 1) no_scene (later-scenes o luma w.picture)
      (omega arith))

  all-long : (j : ℕ) → j + 1 < word32 r 16 → 600000 ≤ (scene_at r j).pictures * word32 r 32
  all-long j h =
      let k : j + 1 < length (scenes o luma) = omega (arith, scenes-are) in
      rw (time-is, scene-is j (omega arith)) (long-scenes o luma w.picture w.opened j no_scene k)

  -- ---- so every check holds

  header-held : Held (header_checks (header_of r) (counted_in r))
  unfolding header_checks header_of
  header-held =
      and (le-leb _ _ capture-fits) (and (le-leb _ _ packets-fit) (and (le-leb _ _ few-scenes) empty))

  unit-held : (j : ℕ) → j < word32 r 8 → Held (unit_checks j (unit_at r j))
  unfolding unit_checks
  unit-held j h = let u = all-units j h in and (le-leb _ _ u.lost) (and (le-leb _ _ u.time) empty)

  scene-held : (j : ℕ) → j < word32 r 16 → Held (scene_checks (header_of r) j (scene_at r j))
  unfolding scene_checks repeat_checks sum_checks start_checks length_checks header_of
  scene-held j h =
      let s = all-scenes j h in
      let start : (scene_at r j).repeated ≤ (scene_at r j).pictures - 1 = omega (arith, s.start) in
      held-append
      (held-append
      (held-append
      (and (le-leb _ _ start) (and (le-leb _ _ s.run) (and (le-leb _ _ s.runs) empty)))
      (and (le-leb _ _ s.among)
      (and (le-leb _ _ s.highest) (and (le-leb _ _ s.score) (and (le-leb _ _ s.change) empty)))))
      (held-pick (ltb 0 j)
      (λ t. let l = all-later j (ltb-true 0 j t) h in
      let inside : (scene_at r j).first ≤ word32 r 40 - 3 = omega (arith, l.inside) in
      and (le-leb _ _ l.cut) (and (le-leb _ _ inside) empty))))
      (held-pick (ltb (j + 1) (word32 r 16)) (λ t. and (le-leb _ _ (all-long j (ltb-true _ _ t))) empty))

  all_held : Held (checks r)
  unfolding checks units_checks scenes_checks index_checks
  all_held =
      held-append
      (held-append
      (held-append header-held
      (held_rows (λ j. unit_checks j (unit_at r j)) (word32 r 8) 0 (λ j low high. unit-held j (omega arith))))
      (held_rows (λ j. scene_checks (header_of r) j (scene_at r j)) (word32 r 16) 0
      (λ j low high. scene-held j (omega arith))))
      (and (eq-eqb _ _ reached) empty)

-- ---- of every successful seal

pub every-seal-reached : EverySealReached
every-seal-reached o capture luma r s =
    let l = left o capture luma r s in
    rw l.is (reached o capture luma l.well s.capture_bytes s.luma_bytes)

pub every-seal-capture-fits : EverySealCaptureFits
every-seal-capture-fits o capture luma r s =
    let l = left o capture luma r s in
    rw l.is (capture-fits o capture luma l.well s.capture_bytes s.luma_bytes)

pub every-seal-packets-fit : EverySealPacketsFit
every-seal-packets-fit o capture luma r s =
    let l = left o capture luma r s in
    rw l.is (packets-fit o capture luma l.well s.capture_bytes s.luma_bytes)

pub every-seal-few-scenes : EverySealFewScenes
every-seal-few-scenes o capture luma r s =
    let l = left o capture luma r s in
    rw l.is (few-scenes o capture luma l.well s.capture_bytes s.luma_bytes)

pub every-seal-sound-units : EverySealSoundUnits
every-seal-sound-units o capture luma r s =
    let l = left o capture luma r s in
    rw l.is (all-units o capture luma l.well s.capture_bytes s.luma_bytes)

pub every-seal-undamaged : EverySealUndamaged
every-seal-undamaged o capture luma r s =
    let l = left o capture luma r s in
    rw l.is (undamaged o capture luma l.well s.capture_bytes s.luma_bytes)

pub every-seal-sound-scenes : EverySealSoundScenes
every-seal-sound-scenes o capture luma r s =
    let l = left o capture luma r s in
    rw l.is (all-scenes o capture luma l.well s.capture_bytes s.luma_bytes)

pub every-seal-later-scenes : EverySealLaterScenes
every-seal-later-scenes o capture luma r s =
    let l = left o capture luma r s in
    rw l.is (all-later o capture luma l.well s.capture_bytes s.luma_bytes)

pub every-seal-long-scenes : EverySealLongScenes
every-seal-long-scenes o capture luma r s =
    let l = left o capture luma r s in
    rw l.is (all-long o capture luma l.well s.capture_bytes s.luma_bytes)

pub every-seal-could-be : EverySealCouldBe
unfolding verdict_of
every-seal-could-be o capture luma r s =
    let l = left o capture luma r s in
    rw (l.is, l.read, all_hold (all_held o capture luma l.well s.capture_bytes s.luma_bytes))
