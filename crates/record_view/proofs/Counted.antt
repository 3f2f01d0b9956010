-- What a view's counts show of its record.
use Prim.Native.Nat.{ℕ, ◌+◌, ◌*◌, ◌≤◌, ◌<◌}
use native.Mathlib.Omega.{arith}
use mathlib.Core.Path.{◌≡◌, refl, sym, ◌∙◌}
use mathlib.Core.Bool.{Bool, true, false, ◌&&◌}
use mathlib.Core.List.{List}
use lib.Dec.{leb, eqb}
use lib.ListN.{length}
use borrow.Author.Tests.{le-ltb, lt-ltb, le-leb, lt-leb, leb-true, eq-eqb, eqb-true}
use Rattle.std.specs.Prelude.{Ok}
use Rattle.rules.specs.Refusals.{Answer, answer, refused, Fault, none, fault}
use Rattle.rules.specs.declared.Header.{Header}
use Rattle.rules.specs.declared.UnitRow.{UnitRow}
use Rattle.rules.specs.declared.SceneRow.{SceneRow}
use Rattle.rules.specs.Bytes.{pick, word32}
use Rattle.rules.specs.Record.{record_length}
use Rattle.rules.specs.Reading.{header_of, unit_at, scene_at, reading_fault, row_fault, unit_fault}
use Rattle.rules.specs.Reading.{scene_fault, header_answer, unit_answer, scene_answer}
use Rattle.record_reader.specs.Opened.{opened_as}
use Rattle.record_reader.proofs.Answers.{counted, accepted-as}
use Rattle.record_view.specs.Seen.{units_of, scenes_of, fits, HeaderSeen, UnitSeen, SceneSeen}

-- ---- counts that fit

pub record Fit (r : List ℕ) (units scenes : ℕ) : Type 0 where
  pub some : 1 ≤ units
  pub said : units ≡ word32 r 8
  pub long : 64 + 32 * (units + scenes) ≤ length r

both : (a b : Bool) → (a && b) ≡ true → (a ≡ true) × (b ≡ true)
both true b e = (refl, e)
both false b e = absurd (let z : ◌≡◌ {A = ℕ} 0 1 = cc in omega arith)

module _ (r : List ℕ) (u s : ℕ) where
  pub fit-shows : fits r u s ≡ true → Fit r u s
  unfolding fits record_length
  fit-shows e =
      let a = both _ (eqb (word32 r 8) u) e in
      let b = both _ (leb (64 + 32 * (u + s)) (length r)) a.0 in
      let c = both _ (leb s 250) b.0 in
      record {
        some = leb-true 1 u (both (leb 1 u) (leb u 750) c.0).0;
        said = sym (eqb-true (word32 r 8) u a.1);
        long = leb-true (64 + 32 * (u + s)) (length r) b.1;
      }

  -- test by test
  pub no-unit : u < 1 → false ≡ fits r u s
  unfolding fits
  no-unit h = rw (lt-leb 1 u h)

  module _ (h₁ : 1 ≤ u) where
    pub many-units : 750 < u → false ≡ fits r u s
    unfolding fits
    many-units h = rw (le-leb 1 u h₁, lt-leb u 750 h)

    module _ (h₂ : u ≤ 750) where
      pub many-scenes : 250 < s → false ≡ fits r u s
      unfolding fits
      many-scenes h = rw (le-leb 1 u h₁, le-leb u 750 h₂, lt-leb s 250 h)

      module _ (h₃ : s ≤ 250) where
        pub too_short : length r < 64 + 32 * (u + s) → false ≡ fits r u s
        unfolding fits record_length
        too_short h = rw (le-leb 1 u h₁, le-leb u 750 h₂, le-leb s 250 h₃, lt-leb (64 + 32 * (u + s)) (length r) h)

        pub so-long : 64 + 32 * (u + s) ≤ length r → (w : ℕ) → w ≡ word32 r 8 → eqb w u ≡ fits r u s
        unfolding fits record_length
        so-long h w e =
            rw (le-leb 1 u h₁, le-leb u 750 h₂, le-leb s 250 h₃, le-leb (64 + 32 * (u + s)) (length r) h, e)

-- an accepted record passes with its own counts; 0 and 0 never pass
pub accepted-fits : (r : List ℕ) (u s : ℕ) → opened_as r ≡ Ok (counted u s) → fits r u s ≡ true
accepted-fits r u s e =
    let a = accepted-as r u s e in
    sym (so-long r u s a.units_more a.units_less a.scenes_less (omega (arith, a.size)) (word32 r 8) refl) ∙
    eq-eqb (word32 r 8) u (sym a.units)

pub none-fits : (r : List ℕ) → false ≡ fits r 0 0
none-fits r = no-unit r 0 0 (omega arith)

-- ---- what is answered by the counts

module _ (r : List ℕ) (u s : ℕ) where
  pub header_read : (a : Answer Header) → fits r u s ≡ false → a ≡ header_answer r → HeaderSeen r u s a
  header_read a f e = rw f e

  pub header-there : (h : Header) → fits r u s ≡ true → h ≡ header_of r → HeaderSeen r u s (Ok h)
  header-there h f e = rw (f, e)

  module _ (j : ℕ) where
    pub unit-read : (a : Answer UnitRow) → fits r u s ≡ false → a ≡ unit_answer r j → UnitSeen r u s j a
    unit-read a f e = rw f e

    pub unit-missing : fits r u s ≡ true → u ≤ j → UnitSeen r u s j (refused 19 0)
    unfolding row_fault
    unit-missing f h = rw (f, le-ltb j u h)

    pub unit-there : (x : UnitRow) → fits r u s ≡ true → j < u → x ≡ unit_at r j → UnitSeen r u s j (Ok x)
    unfolding row_fault
    unit-there x f h e = rw (f, lt-ltb j u h, e)

    pub scene-read : (a : Answer SceneRow) → fits r u s ≡ false → a ≡ scene_answer r j → SceneSeen r u s j a
    scene-read a f e = rw f e

    pub scene-missing : fits r u s ≡ true → s ≤ j → SceneSeen r u s j (refused 19 0)
    unfolding row_fault
    scene-missing f h = rw (f, le-ltb j s h)

    pub scene-there : (x : SceneRow) → fits r u s ≡ true → j < s → x ≡ scene_at r j → SceneSeen r u s j
        (Ok x)
    unfolding row_fault
    scene-there x f h e = rw (f, lt-ltb j s h, e)

-- ---- the counts that a view holds

-- an accepted record's counts are those that opening it gives
pub counts-opened : (r : List ℕ) (u s : ℕ) → opened_as r ≡ Ok (counted u s) →
    (u ≡ units_of r) × (s ≡ scenes_of r)
unfolding units_of scenes_of
counts-opened r u s e =
    let a = accepted-as r u s e in
    (rw a.fault a.units, rw a.fault a.scenes)

-- a refused record has none
pub counts-refused : (r : List ℕ) (k p : ℕ) → reading_fault r ≡ fault k p → (0 ≡ units_of r) × (0 ≡ scenes_of r)
unfolding units_of scenes_of
counts-refused r k p e = (rw e, rw e)

-- by a view's own counts its answers are what reading the record answers
module _ (r : List ℕ) where
  own : (f : Fault) → reading_fault r ≡ f → (P : ℕ → ℕ → Type 0) →
      (reading_fault r ≡ none → P (word32 r 8) (word32 r 16)) → P 0 0 → P (units_of r) (scenes_of r)
  unfolding units_of scenes_of
  own none e P x y = rw e (x e)
  own (fault k p) e P x y = rw e y

  pub header-own : (a : Answer Header) → HeaderSeen r (units_of r) (scenes_of r) a → a ≡ header_answer r
  unfolding header_answer
  header-own a =
      own (reading_fault r) refl (λ (u s : ℕ). HeaderSeen r u s a → a ≡ header_answer r)
      (λ e h. either (fits r (word32 r 8) (word32 r 16)) e h) (λ h. rw (← none-fits r) at h)
    where
      either : (b : Bool) → reading_fault r ≡ none → a ≡ pick b (Ok (header_of r)) (header_answer r) →
          a ≡
          header_answer r
      either true e h = rw e h
      either false e h = h

  pub unit-own : (j : ℕ) (a : Answer UnitRow) → UnitSeen r (units_of r) (scenes_of r) j a → a ≡ unit_answer r j
  unfolding unit_answer unit_fault
  unit-own j a =
      own (reading_fault r) refl (λ (u s : ℕ). UnitSeen r u s j a → a ≡ unit_answer r j)
      (λ e h. either (fits r (word32 r 8) (word32 r 16)) e h) (λ h. rw (← none-fits r) at h)
    where
      either : (b : Bool) → reading_fault r ≡ none → a ≡ pick b (answer (row_fault (word32 r 8) j) (unit_at r j))
          (unit_answer r j) → a ≡ unit_answer r j
      either true e h = rw e h
      either false e h = h

  pub scene-own : (j : ℕ) (a : Answer SceneRow) → SceneSeen r (units_of r) (scenes_of r) j a → a ≡ scene_answer r j
  unfolding scene_answer scene_fault
  scene-own j a =
      own (reading_fault r) refl (λ (u s : ℕ). SceneSeen r u s j a → a ≡ scene_answer r j)
      (λ e h. either (fits r (word32 r 8) (word32 r 16)) e h) (λ h. rw (← none-fits r) at h)
    where
      either : (b : Bool) → reading_fault r ≡ none → a ≡ pick b (answer (row_fault (word32 r 16) j) (scene_at r j))
          (scene_answer r j) → a ≡ scene_answer r j
      either true e h = rw e h
      either false e h = h
