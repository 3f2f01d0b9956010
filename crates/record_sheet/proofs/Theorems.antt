-- What a reader may lean on: widths of fields, lengths of lines and pages, the bytes past the pages.
use Prim.Native.Nat.{ℕ, zero, suc, ◌+◌, ◌-◌, ◌*◌, ◌^◌, ◌≤◌, ◌<◌}
use native.Mathlib.Omega.{arith}
use native.Mathlib.Nat.{mul-suc}
use mathlib.Core.Path.{◌≡◌, refl, ap, ◌∙◌}
use mathlib.Core.Bool.{Bool, true, false}
use mathlib.Core.List.{List, [], ◌∷◌, ◌++◌}
use lib.ListN.{length, drop, replicate, length-append, length-replicate}
use lib.Seq.{drop_at}
use Rattle.std.specs.Prelude.{Ok, Err}
use Rattle.rules.specs.Refusals.{Answer, none}
use Rattle.rules.specs.declared.Header.{Header}
use Rattle.rules.specs.declared.UnitRow.{UnitRow}
use Rattle.rules.specs.declared.SceneRow.{SceneRow}
use Rattle.rules.specs.Bytes.{pick, word32, table, end_to_end, All, empty, and}
use Rattle.rules.specs.Editions.{knows_damage}
use Rattle.rules.specs.Reading.{header_of, unit_at, scene_at, reading_fault}
use Rattle.rules.specs.Seal.{over, if_done}
use Rattle.rules.specs.Digits.{decimal, hex_in}
use Rattle.rules.specs.Sheet.{aligned, columns, header_fields, unit_fields, scene_fields, ending, line, header_line}
use Rattle.rules.specs.Sheet.{unit_line, scene_line, blank_line, record_lines, line_count, pages_for, blanks_for}
use Rattle.rules.specs.Sheet.{sheet_lines, sheet_of, sheet_length, sheet_answer, sheet_buffer}
use Rattle.rules.proofs.Laws.Lists.{length-table}
use Rattle.record_laws.proofs.Allowed.{record-allowed, unit-fits, scene-fits}
use Rattle.record_laws.proofs.Record.{UnitFits, SceneFits}
use Rattle.record_laws.proofs.Words.{EachByte, word32-fits, word64-fits}
use Rattle.record_reader.proofs.Answers.{fault-allowed}
use Rattle.record_text.proofs.Texts.{length-hex}
use Rattle.record_lines.specs.Put.{Fits}
use Rattle.record_lines.proofs.Puts.{few-digits, length-aligned, figure, time}

-- ---- fields

-- 32-bit figures have 10 digits at most, 64-bit ones 20: a space parts each field from the one before
pub figure-digits : (n : ℕ) → n < 2 ^ 32 → length (decimal n) ≤ 10
unfolding decimal
figure-digits n h = few-digits 20 n 10 (omega arith) (omega arith)

pub time-digits : (n : ℕ) → n < 2 ^ 64 → length (decimal n) ≤ 20
unfolding decimal
time-digits n h = few-digits 20 n 20 (omega arith) (omega arith)

-- a number below 10 ^ w fits w columns
pub fits : (w n : ℕ) → 1 ≤ w → n < 10 ^ w → length (aligned w (decimal n)) ≡ w
unfolding decimal
fits w n a h = length-aligned w (decimal n) (few-digits 20 n w a h)

-- so every figure fits its columns, as 16 hexadecimal digits do
pub figure-fits : (n : ℕ) → n < 2 ^ 32 → length (aligned 11 (decimal n)) ≡ 11
figure-fits n h = fits 11 n (omega arith) (omega arith)

pub time-fits : (n : ℕ) → n < 2 ^ 64 → length (aligned 21 (decimal n)) ≡ 21
time-fits n h = fits 21 n (omega arith) (omega arith)

pub bits_fit : (n : ℕ) → length (aligned 21 (hex_in 16 n)) ≡ 21
bits_fit n = length-aligned 21 (hex_in 16 n) (omega (arith, length-hex 16 n))

pub length-columns : (w : ℕ) {ns : List ℕ} → 1 ≤ w → All (Fits w) ns → length (columns w ns) ≡ w * length ns
unfolding columns end_to_end
length-columns w a empty = omega arith
length-columns w a (and {x} {xs} p ps) =
    length-append (aligned w (decimal x)) (columns w xs)
    ∙ omega (arith, fits w x a p.0, length-columns w a ps, mul-suc w (length xs))

-- what a line prints, in the columns that hold it
pub record FirstFits (h : Header) : Type 0 where
  pub width : h.width < 2 ^ 32
  pub height : h.height < 2 ^ 32
  pub pictures : h.pictures < 2 ^ 32
  pub index : h.index < 2 ^ 64

pub first-counts : (h : Header) → FirstFits h → All (Fits 11) (h.width ∷ h.height ∷ h.pictures ∷ [])
first-counts h f =
    figure h.width f.width (figure h.height f.height (figure h.pictures f.pictures empty))

pub unit-times : (u : UnitRow) → UnitFits u → All (Fits 21) (u.least ∷ u.greatest ∷ [])
unit-times u f = time u.least f.least (time u.greatest f.greatest empty)

pub unit-counts : (u : UnitRow) → UnitFits u → All (Fits 11) (u.size ∷ u.packets ∷ u.lost ∷ [])
unit-counts u f = figure u.size f.size (figure u.packets f.packets (figure u.lost f.lost empty))

pub scene-counts : (j : ℕ) (s : SceneRow) → j < 2 ^ 32 → SceneFits s →
    All (Fits 11) (j ∷ s.first ∷ s.pictures ∷ s.repeated ∷ s.longest ∷ s.score ∷ s.peak ∷ s.change ∷ [])
scene-counts j s h f =
    let last = figure s.score f.score (figure s.peak f.peak (figure s.change f.change empty)) in
    let more = figure s.repeated f.repeated (figure s.longest f.longest last) in
    figure j h (figure s.first f.first (figure s.pictures f.pictures more))

-- the columns of a line's fields
pub header-columns : (h : Header) → FirstFits h → length (header_fields h) ≡ 54
unfolding header_fields
header-columns h f =
    length-append (columns 11 (h.width ∷ h.height ∷ h.pictures ∷ [])) (aligned 21 (hex_in 16 h.index))
    ∙ omega (arith, bits_fit h.index, length-columns 11 (omega arith) (first-counts h f))

pub unit-damaged : (u : UnitRow) → UnitFits u → All (Fits 11) (u.damaged ∷ [])
unit-damaged u f = figure u.damaged f.damaged empty

-- 86, and 11 more where damage is known
pub unit-columns : (known : Bool) (j : ℕ) (u : UnitRow) → j < 2 ^ 32 → UnitFits u →
    length (unit_fields known j u) ≡ 86 + pick known 11 0
unfolding unit_fields
unit-columns known j u h f =
    let number = columns 11 (j ∷ []) in
    let times = columns 21 (u.least ∷ u.greatest ∷ []) in
    let counts = columns 11 (u.size ∷ u.packets ∷ u.lost ∷ []) in
    let last = pick known (columns 11 (u.damaged ∷ [])) [] in
    let n = length-columns 11 (omega arith) (figure j h empty) in
    let t = length-columns 21 (omega arith) (unit-times u f) in
    let k = length-columns 11 (omega arith) (unit-counts u f) in
    let m : length last ≡ pick known 11 0 = go known in
    length-append (number ++ times ++ counts) last
    ∙ omega (arith, length-append (number ++ times) counts, length-append number times, n, t, k, m)
  where
    go : (b : Bool) → length (pick b (columns 11 (u.damaged ∷ [])) []) ≡ pick b 11 0
    go true = length-columns 11 (omega arith) (unit-damaged u f)
    go false = refl

pub scene-columns : (j : ℕ) (s : SceneRow) → j < 2 ^ 32 → SceneFits s → length (scene_fields j s) ≡ 88
unfolding scene_fields
scene-columns j s h f = length-columns 11 (omega arith) (scene-counts j s h f)

-- ---- lines

abbrev pub Long : List ℕ → Type 0
Long l = length l ≡ 101

length-ending : (n : ℕ) → n ≤ 100 → length (ending n) ≡ 101 - n
unfolding ending
length-ending n h =
    rw (length-append {A = ℕ} (replicate (100 - n) 32) (10 ∷ []), length-replicate {A = ℕ} (100 - n) 32) (omega arith)

length-line : (mark : ℕ) (fields : List ℕ) → length fields ≤ 99 → Long (line mark fields)
unfolding line
length-line mark fields h =
    length-append ((mark ∷ []) ++ fields) (ending (length ((mark ∷ []) ++ fields)))
    ∙ omega (arith, length-ending (length ((mark ∷ []) ++ fields)) (omega arith))

blank-length : Long blank_line
unfolding blank_line
blank-length = length-ending 0 (omega arith)

-- each of a list, of a table, of a repetition
module _ {P : List ℕ → Type 0} where
  pub all_append : {xs ys : List (List ℕ)} → All P xs → All P ys → All P (xs ++ ys)
  all_append empty b = b
  all_append (and p a) b = and p (all_append a b)

  pub all-table : (n from : ℕ) (f : ℕ → List ℕ) → ((j : ℕ) → j < from + n → P (f j)) → All P (table n from f)
  unfolding table
  all-table zero from f h = empty
  all-table (suc n) from f h = and (h from (omega arith)) (all-table n (suc from) f (λ j k. h j (omega arith)))

  pub all_same : (n : ℕ) (x : List ℕ) → P x → All P (replicate n x)
  all_same zero x p = empty
  all_same (suc n) x p = and p (all_same n x p)

length-lines : {ls : List (List ℕ)} → All Long ls → length (end_to_end ls) ≡ 101 * length ls
unfolding end_to_end
length-lines empty = refl
length-lines (and {x} {xs} p ps) = length-append x (end_to_end xs) ∙ omega (arith, p, length-lines ps)

-- ---- of a record that is a string of bytes

past : (x b : List ℕ) (n : ℕ) → length x ≡ n → drop n (over x b) ≡ drop n b
unfolding over
past x b n e = drop_at x (drop (length x) b) n e ∙ ap (λ (k : ℕ). drop k b) e

-- every page has 60 lines
pub whole-pages : (r : List ℕ) → length (sheet_lines r) ≡ 60 * pages_for (line_count r)
unfolding sheet_lines record_lines line_count pages_for blanks_for
whole-pages r = simp (length-append, length-replicate, length-table) (omega arith)

module _ (r : List ℕ) (bytes : EachByte r) where
  pub here : (i : ℕ) → word32 r i < 2 ^ 32
  here i = word32-fits r i bytes

  pub first_fits : FirstFits (header_of r)
  unfolding header_of
  first_fits = record { width = here 24; height = here 28; pictures = here 40; index = word64-fits r 56 bytes }

  unit-long : (known : Bool) (j : ℕ) → j < 2 ^ 32 → Long (unit_line known j (unit_at r j))
  unfolding unit_line
  unit-long known j h =
      length-line 85 _ (omega (arith, unit-columns known j (unit_at r j) h (unit-fits r bytes j), small known))
    where
      small : (b : Bool) → pick b 11 0 ≤ 11
      small true = omega arith
      small false = omega arith

  scene-long : (j : ℕ) → j < 2 ^ 32 → Long (scene_line j (scene_at r j))
  unfolding scene_line
  scene-long j h = length-line 83 _ (omega (arith, scene-columns j (scene_at r j) h (scene-fits r bytes j)))

  header-long : Long (header_line (header_of r))
  unfolding header_line
  header-long = length-line 32 _ (omega (arith, header-columns (header_of r) first_fits))

  -- every line has 101 bytes
  pub every-line : All Long (sheet_lines r)
  unfolding sheet_lines record_lines
  every-line =
      let known = knows_damage (word32 r 0) in
      let unit : ℕ → List ℕ = λ j. unit_line known j (unit_at r j) in
      let scene : ℕ → List ℕ = λ j. scene_line j (scene_at r j) in
      let units = all-table {P = Long} (word32 r 8) 0 unit (λ j h. unit-long known j (omega (arith, here 8))) in
      let scenes = all-table {P = Long} (word32 r 16) 0 scene (λ j h. scene-long j (omega (arith, here 16))) in
      let blanks = all_same (blanks_for (line_count r)) blank_line blank-length in
      all_append (all_append (all_append (and header-long empty) units) scenes) blanks

  -- so the sheet has 6,060 bytes a page
  pub sheet-length : length (sheet_of r) ≡ sheet_length r
  unfolding sheet_of sheet_length
  sheet-length = length-lines every-line ∙ omega (arith, whole-pages r)

  -- nothing past the pages is written, whatever the record and the buffer
  pub past-pages : (b : List ℕ) → drop (sheet_length r) (sheet_buffer r b) ≡ drop (sheet_length r) b
  unfolding sheet_buffer
  past-pages b = go (sheet_answer r (length b))
    where
      go : (a : Answer ℕ) → drop (sheet_length r) (if_done a (over (sheet_of r) b) b) ≡ drop (sheet_length r) b
      go (Err e) = refl
      go (Ok m) = past (sheet_of r) b (sheet_length r) sheet-length

-- 17 pages are enough for every record that is not refused
pub most-pages : (r : List ℕ) → reading_fault r ≡ none → sheet_length r ≤ 103020
unfolding sheet_length line_count pages_for
most-pages r e =
    let h = (record-allowed r (fault-allowed r e)).header in
    omega (arith, h.units_less, h.scenes_less)
