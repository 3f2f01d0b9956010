-- What a view answers: what reading its record answers, refusals with it.
use Rattle.std.specs.Prelude.{ℕ, ◌≡◌, Bool, ◌&&◌, List, leb, eqb, length, Ok}
use Rattle.std.specs.Borrow.{Bor}
use Rattle.rules.specs.declared.SceneRow.{SceneRow}
use Rattle.rules.specs.declared.Header.{Header}
use Rattle.rules.specs.declared.UnitRow.{UnitRow}
use Rattle.rules.specs.Refusals.{Answer, answer}
use Rattle.rules.specs.Bytes.{pick, within, word32}
use Rattle.rules.specs.Pictures.{if_opened}
use Rattle.rules.specs.Record.{record_length}
use Rattle.rules.specs.Reading.{header_of, unit_at, scene_at, reading_fault, row_fault}
use Rattle.rules.specs.Reading.{header_answer, unit_answer, scene_answer}
use Rattle.record_view.specs.declared.View.{View}

-- the counts that a view of the record r holds: 0 where r is refused
unfoldable pub units_of : List ℕ → ℕ
units_of r = if_opened (reading_fault r) (word32 r 8)

unfoldable pub scenes_of : List ℕ → ℕ
scenes_of r = if_opened (reading_fault r) (word32 r 16)

-- r says so many units, 1 to 750, and is long enough for the rows of so many units and of so many scenes, at most 250
unfoldable pub fits : List ℕ → ℕ → ℕ → Bool
fits r units scenes =
    within 1 750 units && leb scenes 250 && leb (record_length units scenes) (length r) && eqb (word32 r 8) units

-- what is answered of r by any counts. By those that r's view holds it is what reading r answers (proofs/Answers); by
-- others that fit it is what stands there;
-- by others again r is read
abbrev pub HeaderSeen : List ℕ → ℕ → ℕ → Answer Header → Type 0
HeaderSeen r units scenes a = a ≡ pick (fits r units scenes) (Ok (header_of r)) (header_answer r)

abbrev pub UnitSeen : List ℕ → ℕ → ℕ → ℕ → Answer UnitRow → Type 0
UnitSeen r units scenes j a =
    a ≡ pick (fits r units scenes) (answer (row_fault units j) (unit_at r j)) (unit_answer r j)

abbrev pub SceneSeen : List ℕ → ℕ → ℕ → ℕ → Answer SceneRow → Type 0
SceneSeen r units scenes j a =
    a ≡ pick (fits r units scenes) (answer (row_fault scenes j) (scene_at r j)) (scene_answer r j)

-- v is the view that opening the slice s makes
abbrev pub ViewOf : Bor (List ℕ) → View → Type 0
ViewOf s v = (v.bytes ≡ s) × (v.units ≡ units_of s.now) × (v.scenes ≡ scenes_of s.now)

-- every slice's view answers as the rules say of the slice
abbrev pub Answers : Type 0
Answers =
    (s : Bor (List ℕ)) (v : View) → ViewOf s v →
    ((a : Answer Header) → HeaderSeen v.bytes.now v.units v.scenes a → a ≡ header_answer s.now)
    × ((j : ℕ) (a : Answer UnitRow) → UnitSeen v.bytes.now v.units v.scenes j a → a ≡ unit_answer s.now j)
    × ((j : ℕ) (a : Answer SceneRow) → SceneSeen v.bytes.now v.units v.scenes j a → a ≡ scene_answer s.now j)
