-- What opening a record answers, by what was tested, and what an answer shows of the record.
use Prim.Native.Nat.{ℕ, ◌+◌, ◌*◌, ◌≤◌, ◌<◌}
use native.Mathlib.Omega.{arith}
use mathlib.Core.Path.{◌≡◌, refl, sym, ap, ◌∙◌}
use mathlib.Core.Bool.{Bool, true, false}
use mathlib.Core.List.{List}
use lib.ListN.{length}
use lib.Dec.{leb}
use borrow.Author.Tests.{lt-ltb, le-ltb, le-leb, lt-leb}
use Rattle.rules.specs.declared.Header.{Header}
use Rattle.rules.specs.declared.UnitRow.{UnitRow}
use Rattle.rules.specs.declared.SceneRow.{SceneRow}
use Rattle.std.specs.Prelude.{Ok, Err}
use Rattle.rules.specs.declared.refusals.Refusal.{Refusal}
use Rattle.record_reader.specs.declared.RowCounts.{RowCounts}
use Rattle.rules.specs.Refusals.{Answer, refused, none, fault, unless, ◌or_else◌}
use Rattle.rules.specs.Bytes.{word32}
use Rattle.rules.specs.Record.{record_length}
use Rattle.rules.specs.Editions.{is_edition}
use Rattle.rules.specs.Reading.{header_of, unit_at, scene_at, allowed, reading_fault, row_fault, unit_fault}
use Rattle.rules.specs.Reading.{scene_fault, header_answer, unit_answer, scene_answer}
use Rattle.rules.proofs.Laws.Answers.{given-none, given-same, refused-fault}
use Rattle.record_laws.proofs.Allowed.{record-allowed}
use Rattle.record_reader.specs.Opened.{opened_as}

-- ---- opening, test by test

-- so many rows of units and of scenes
abbrev pub counted : ℕ → ℕ → RowCounts
counted u s = record { units = u; scenes = s }

pub edition-is : {b : Bool} {w x : ℕ} → b ≡ is_edition w → w ≡ x → b ≡ is_edition x
edition-is e f = rw (← f) e

module _ (r : List ℕ) where
  pub opened-short : length r < 64 → refused 16 0 ≡ opened_as r
  unfolding opened_as reading_fault
  opened-short h = rw (lt-leb 64 (length r) h)

  module _ (h : 64 ≤ length r) (w : Bool) (is-w : w ≡ is_edition (word32 r 0)) where
    pub opened-edition : w ≡ false → refused 17 0 ≡ opened_as r
    unfolding opened_as reading_fault
    opened-edition k = rw (le-leb 64 (length r) h, ← is-w, k)

    module _ (k : w ≡ true) (b : Bool) (is_b : b ≡ allowed r) where
      pub opened-wrong : b ≡ false → refused 18 0 ≡ opened_as r
      unfolding opened_as reading_fault
      opened-wrong f = rw (le-leb 64 (length r) h, ← is-w, k, ← is_b, f)

      pub opened-right : (u s : ℕ) → u ≡ word32 r 8 → s ≡ word32 r 16 → b ≡ true → Ok (counted u s) ≡ opened_as r
      unfolding opened_as reading_fault
      opened-right u s is-u is-s f = rw (le-leb 64 (length r) h, ← is-w, k, ← is_b, f, is-u, is-s)

-- ---- what an answer shows

-- an accepted record: it is allowed, the counts are its words, and its length is theirs
pub record AcceptedAs (r : List ℕ) (u s : ℕ) : Type 0 where
  pub units : u ≡ word32 r 8
  pub scenes : s ≡ word32 r 16
  pub fault : reading_fault r ≡ none
  pub allowed : allowed r ≡ true
  pub size : length r ≡ 64 + 32 * (u + s)
  pub units_more : 1 ≤ u
  pub units_less : u ≤ 750
  pub scenes_less : s ≤ 250

no_fault : (a b c : Bool) → (unless a 16 or_else unless b 17 or_else unless c 18) ≡ none → c ≡ true
no_fault false b c e = absurd (let z : ◌≡◌ {A = ℕ} 0 1 = cc in omega arith)
no_fault true false c e = absurd (let z : ◌≡◌ {A = ℕ} 0 1 = cc in omega arith)
no_fault true true true e = refl
no_fault true true false e = absurd (let z : ◌≡◌ {A = ℕ} 0 1 = cc in omega arith)

pub fault-allowed : (r : List ℕ) → reading_fault r ≡ none → allowed r ≡ true
unfolding reading_fault
fault-allowed r e = no_fault (leb 64 (length r)) (is_edition (word32 r 0)) (allowed r) e

pub accepted-as : (r : List ℕ) (u s : ℕ) → opened_as r ≡ Ok (counted u s) → AcceptedAs r u s
unfolding opened_as record_length
accepted-as r u s e =
    let none-wrong = given-none (reading_fault r) _ _ e in
    let same = given-same (reading_fault r) _ _ e in
    let is-units : word32 r 8 ≡ u = ap (λ (c : RowCounts). c.units) same in
    let is-scenes : word32 r 16 ≡ s = ap (λ (c : RowCounts). c.scenes) same in
    let g = fault-allowed r none-wrong in
    let h = (record-allowed r g).header in
    let n : length r ≡ 64 + 32 * (word32 r 8 + word32 r 16) = sym h.length ∙ h.whole in
    record {
      units = sym is-units;
      scenes = sym is-scenes;
      fault = none-wrong;
      allowed = g;
      size = omega (arith, is-units, is-scenes, n);
      units_more = omega (arith, is-units, h.units_more);
      units_less = omega (arith, is-units, h.units_less);
      scenes_less = omega (arith, is-scenes, h.scenes_less);
    }

-- of an answer o of opening
module _ (r : List ℕ) (o : Answer RowCounts) (e : o ≡ opened_as r) where
  pub accepted : (u s : ℕ) → o ≡ Ok (counted u s) → AcceptedAs r u s
  accepted u s a = accepted-as r u s (sym e ∙ a)

  pub refused-as : (d : Refusal) → o ≡ Err d → reading_fault r ≡ fault d.number d.place
  unfolding opened_as
  refused-as d a = refused-fault (reading_fault r) _ d (sym e ∙ a)

-- ---- the answers of reading

pub header-given : (r : List ℕ) (h : Header) → reading_fault r ≡ none → h ≡ header_of r →
    Ok h ≡ header_answer r
unfolding header_answer
header-given r h e g = rw (e, g)

module _ (r : List ℕ) (j : ℕ) where
  pub unit-given : (u s : ℕ) (x : UnitRow) → AcceptedAs r u s → j < u → x ≡ unit_at r j →
      Ok x ≡ unit_answer r j
  unfolding unit_answer unit_fault row_fault
  unit-given u s x a h g = rw (a.fault, lt-ltb j (word32 r 8) (omega (arith, a.units)), g)

  pub unit-missing : (u s : ℕ) → AcceptedAs r u s → u ≤ j → refused 19 0 ≡ unit_answer r j
  unfolding unit_answer unit_fault row_fault
  unit-missing u s a h = rw (a.fault, le-ltb j (word32 r 8) (omega (arith, a.units)))

  pub scene-given : (u s : ℕ) (x : SceneRow) → AcceptedAs r u s → j < s → x ≡ scene_at r j →
      Ok x ≡ scene_answer r j
  unfolding scene_answer scene_fault row_fault
  scene-given u s x a h g = rw (a.fault, lt-ltb j (word32 r 16) (omega (arith, a.scenes)), g)

  pub scene-missing : (u s : ℕ) → AcceptedAs r u s → s ≤ j → refused 19 0 ≡ scene_answer r j
  unfolding scene_answer scene_fault row_fault
  scene-missing u s a h = rw (a.fault, le-ltb j (word32 r 16) (omega (arith, a.scenes)))
