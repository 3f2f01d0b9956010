-- What a sheet tells of a record: every figure but those that it leaves out.
use Prim.Native.Nat.{ℕ, zero, suc, ◌+◌, ◌*◌, ◌<◌}
use native.Mathlib.Omega.{arith}
use native.Mathlib.Nat.{add-zero, zero-add}
use mathlib.Core.Path.{◌≡◌, refl, sym, ap, ◌∙◌}
use mathlib.Core.Bool.{Bool, true, false, ◌&&◌}
use mathlib.Core.List.{List, [], append-nil}
use lib.ListN.{length, drop, length-append}
use lib.Seq.{drop-drop}
use lib.Dec.{leb, eqb}
use borrow.Author.Tests.{eqb-true}
use Rattle.rules.specs.Bytes.{byte, word32, word64, only, table, end_to_end, All, empty, and}
use Rattle.rules.specs.Refusals.{none}
use Rattle.rules.specs.Editions.{knows_damage}
use Rattle.rules.specs.Reading.{header_of, unit_place, unit_in, unit_at, scene_at, allowed_unit, allowed_units}
use Rattle.rules.specs.Reading.{reading_fault}
use Rattle.rules.specs.Sheet.{ending, line, header_line, unit_line, scene_line, blank_line}
use Rattle.rules.specs.Sheet.{record_lines, line_count, blanks_for, sheet_lines, sheet_of, left_out}
use Rattle.rules.proofs.Laws.Lists.{both, only-append, length-table}
use Rattle.record_laws.proofs.Words.{EachByte}
use Rattle.record_laws.proofs.Allowed.{record-allowed, units_read, scenes_read, unit-fits, scene-fits}
use Rattle.record_reader.proofs.Answers.{fault-allowed}
use Rattle.record_reader.proofs.Theorems.{same-reading}
use Rattle.record_sheet.proofs.Theorems.{Long, all-table, all_same, here, first_fits, every-line}
use Rattle.record_sheet.proofs.Fields.{apart, SameFirst, same_first, same-unit, same-scene}

-- those that pass a test, where all do and where none does
module _ {A : Type 0} where
  only-all : (test : A → Bool) {xs : List A} → All (λ x. test x ≡ true) xs → only test xs ≡ xs
  unfolding only
  only-all test empty = refl
  only-all test (and {x} {xs} p ps) = rw (p, only-all test ps)

  only_none : (test : A → Bool) {xs : List A} → All (λ x. test x ≡ false) xs → only test xs ≡ []
  unfolding only
  only_none test empty = refl
  only_none test (and {x} {xs} p ps) = rw (p, only_none test ps)

-- lines end to end tell the lines
same_lines : {xs ys : List (List ℕ)} → All Long xs → All Long ys → end_to_end xs ≡ end_to_end ys → xs ≡ ys
unfolding end_to_end
same_lines empty empty e = refl
same_lines empty (and {x = y} {xs = ys} q qs) e =
    absurd (omega (arith, q, ap length e, length-append y (end_to_end ys)))
same_lines (and {x} {xs} p ps) empty e = absurd (omega (arith, p, ap length e, length-append x (end_to_end xs)))
same_lines (and {x} {xs} p ps) (and {x = y} {xs = ys} q qs) e =
    let z = apart x y (end_to_end xs) (end_to_end ys) (p ∙ sym q) e in
    rw (z.0, same_lines ps qs z.1)

-- ---- lines of a kind

-- lines that have this mark
marked : ℕ → List ℕ → Bool
marked m l = eqb (byte l 0) m

-- two equal tables are equally long
same_count : (n m : ℕ) (f g : ℕ → List ℕ) → table n 0 f ≡ table m 0 g → n ≡ m
same_count n m f g e = sym (length-table n 0 f) ∙ (ap length e ∙ length-table m 0 g)

-- two tables of one length are equal entry by entry
same_entries : (n from : ℕ) (f g : ℕ → List ℕ) → table n from f ≡ table n from g →
    (j : ℕ) → j < n → f (from + j) ≡ g (from + j)
unfolding table
same_entries zero from f g e j h = absurd (omega arith)
same_entries (suc n) from f g e zero h = rw (add-zero from) (cc)
same_entries (suc n) from f g e (suc j) h =
    let t : table n (suc from) f ≡ table n (suc from) g = cc in
    let k : from + suc j ≡ suc from + j = omega arith in
    rw k (same_entries n (suc from) f g t j (omega arith))

same-entry : (n m : ℕ) (f g : ℕ → List ℕ) → n ≡ m → table n 0 f ≡ table m 0 g → (j : ℕ) → j < n → f j ≡ g j
same-entry n m f g k e j h = rw (zero-add j) at (same_entries n 0 f g (e ∙ ap (λ (i : ℕ). table i 0 g) (sym k)) j h)

-- and the other way
same-table : {A : Type 0} (n from : ℕ) (f g : ℕ → A) → ((j : ℕ) → j < from + n → f j ≡ g j) →
    table n from f ≡ table n from g
unfolding table
same-table zero from f g h = refl
same-table (suc n) from f g h = rw (h from (omega arith), same-table n (suc from) f g (λ j k. h j (omega arith)))

-- the line of unit j, and of scene j
abbrev unit_of : List ℕ → ℕ → List ℕ
unit_of r j = unit_line (knows_damage (word32 r 0)) j (unit_at r j)

abbrev scene_of : List ℕ → ℕ → List ℕ
scene_of r j = scene_line j (scene_at r j)

module _ (r : List ℕ) where
  -- the lines marked `U` are the units', those marked `S` the scenes'
  units-marked : only (marked 85) (sheet_lines r) ≡ table (word32 r 8) 0 (unit_of r)
  unfolding sheet_lines record_lines marked only header_line unit_line scene_line line blank_line ending
  units-marked =
      let b = only_none (marked 85) (all_same (blanks_for (line_count r)) blank_line refl) in
      let u = only-all (marked 85) (all-table (word32 r 8) 0 (unit_of r) (λ j h. refl)) in
      let s = only_none (marked 85) (all-table (word32 r 16) 0 (scene_of r) (λ j h. refl)) in
      simp (only-append, b, u, s, append-nil)

  -- the first line
  first-line : (t : List ℕ) → sheet_lines r ≡ sheet_lines t → header_line (header_of r) ≡ header_line (header_of t)
  unfolding sheet_lines record_lines
  first-line t e = cc

  scenes-marked : only (marked 83) (sheet_lines r) ≡ table (word32 r 16) 0 (scene_of r)
  unfolding sheet_lines record_lines marked only header_line unit_line scene_line line blank_line ending
  scenes-marked =
      let b = only_none (marked 83) (all_same (blanks_for (line_count r)) blank_line refl) in
      let u = only_none (marked 83) (all-table (word32 r 8) 0 (unit_of r) (λ j h. refl)) in
      let s = only-all (marked 83) (all-table (word32 r 16) 0 (scene_of r) (λ j h. refl)) in
      simp (only-append, b, u, s, append-nil)

-- ---- THE STATEMENT

-- two records of which every printed figure is the same
pub record SamePrinted (r t : List ℕ) : Type 0 where
  pub units : word32 r 8 ≡ word32 t 8
  pub scenes : word32 r 16 ≡ word32 t 16
  pub first : SameFirst (header_of r) (header_of t)
  pub unit_rows : (j : ℕ) → j < word32 r 8 → unit_at r j ≡ unit_at t j
  pub scene_rows : (j : ℕ) → j < word32 r 16 → scene_at r j ≡ scene_at t j

-- word 28 of an accepted record's unit is zero where no damage is known
zero-unit : (n : ℕ) (b : List ℕ) → allowed_units false n b ≡ true → (j : ℕ) → j < n → word32 (drop (32 * j) b) 28 ≡ 0
unfolding allowed_units allowed_unit
zero-unit zero b e j h = absurd (omega arith)
zero-unit (suc n) b e zero h =
    let x = both (allowed_unit false b) (allowed_units false n (drop 32 b)) e in
    let others = leb (word64 b 0) (word64 b 8) && leb 1 (word32 b 20) && eqb (word32 b 16) (184 * word32 b 20) in
    eqb-true (word32 b 28) 0 (both others (eqb (word32 b 28) 0) x.0).1
zero-unit (suc n) b e (suc j) h =
    let g : 32 * suc j ≡ 32 + 32 * j = omega arith in
    let x = both (allowed_unit false b) (allowed_units false n (drop 32 b)) e in
    rw (g, ← drop-drop (32 * j) 32 b) (zero-unit n (drop 32 b) x.1 j (omega arith))

zero_row : (r : List ℕ) → reading_fault r ≡ none → knows_damage (word32 r 0) ≡ false → (j : ℕ) → j < word32 r 8 →
    (unit_at r j).damaged ≡ 0
unfolding unit_in unit_at unit_place
zero_row r e k j h =
    let u : allowed_units false (word32 r 8) (drop 64 r) ≡ true =
    rw k at (record-allowed r (fault-allowed r e)).units in
    rw (drop-drop (32 * j) 64 r) at (zero-unit (word32 r 8) (drop 64 r) u j h)

module _ (r t : List ℕ) (a : EachByte r) (b : EachByte t) (x : reading_fault r ≡ none)
    (y : reading_fault t ≡ none) where
  -- two accepted records with one sheet, of which both know damage or neither does, have the same printed figures
  pub same-sheet : knows_damage (word32 r 0) ≡ knows_damage (word32 t 0) → sheet_of r ≡ sheet_of t → SamePrinted r t
  unfolding sheet_of
  same-sheet k e =
      let lines = same_lines (every-line r a) (every-line t b) e in
      let u = sym (units-marked r) ∙ (ap (only (marked 85)) lines ∙ units-marked t) in
      let s = sym (scenes-marked r) ∙ (ap (only (marked 83)) lines ∙ scenes-marked t) in
      let n = same_count (word32 r 8) (word32 t 8) (unit_of r) (unit_of t) u in
      let m = same_count (word32 r 16) (word32 t 16) (scene_of r) (scene_of t) s in
      record {
        units = n;
        scenes = m;
        first = same_first (header_of r) (header_of t) (first_fits r a) (first_fits t b) (first-line r t lines);
        unit_rows =
            λ j h.
            same-unit (knows_damage (word32 r 0)) j (unit_at r j) (unit_at t j) (unit-fits r a j) (unit-fits t b j)
            (λ z. (zero_row r x z j h, zero_row t y (sym k ∙ z) j (omega arith))) (omega (arith, here r a 8))
            (same-entry (word32 r 8) (word32 t 8) (unit_of r) (unit_of t) n u j h
            ∙ ap (λ (q : Bool). unit_line q j (unit_at t j)) (sym k));
        scene_rows =
            λ j h.
            same-scene j (scene_at r j) (scene_at t j) (omega (arith, here r a 16)) (scene-fits r a j)
            (scene-fits t b j)
            (same-entry (word32 r 16) (word32 t 16) (scene_of r) (scene_of t) m s j h);
      }

  -- with what the sheet leaves out, it tells the whole record
  pub sheet-tells : sheet_of r ≡ sheet_of t → left_out (header_of r) ≡ left_out (header_of t) → r ≡ t
  unfolding left_out header_of units_read scenes_read
  sheet-tells e l =
      let d : word32 r 0 ≡ word32 t 0 = cc in
      let p = same-sheet (ap knows_damage d) e in
      let f = p.first in
      let k = p.units in
      let m = p.scenes in
      let h : header_of r ≡ header_of t = cc in
      let us : units_read r ≡ units_read t =
      rw (← k) (same-table (word32 r 8) 0 (unit_at r) (unit_at t) (λ j i. p.unit_rows j (omega arith)))
      in
      let ss : scenes_read r ≡ scenes_read t =
      rw (← m) (same-table (word32 r 16) 0 (scene_at r) (scene_at t) (λ j i. p.scene_rows j (omega arith)))
      in
      same-reading r t a b x y h us ss
