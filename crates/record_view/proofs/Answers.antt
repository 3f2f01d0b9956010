-- The view that `open` makes answers as the rules say, by the contracts of `open` and of the
-- three functions over a view.
use mathlib.Core.Path.{subst}
use mathlib.Core.List.{List}
use Prim.Native.Nat.{ℕ}
use denote.Ref.{Bor}
use Rattle.record_view.specs.declared.View.{View}
use Rattle.record_view.specs.Seen.{units_of, scenes_of, ViewOf, HeaderSeen, UnitSeen, SceneSeen, Answers}
use Rattle.record_view.proofs.Counted.{header-own, unit-own, scene-own}

-- what holds of a view's slice and counts holds of its record and that record's counts
of-record : (s : Bor (List ℕ)) (v : View) → ViewOf s v → (P : List ℕ → ℕ → ℕ → Type 0) → P v.bytes.now v.units
    v.scenes →
    P s.now (units_of s.now) (scenes_of s.now)
of-record s v o P h =
    subst (λ (n : ℕ). P s.now (units_of s.now) n) o.2
    (subst (λ (n : ℕ). P s.now n v.scenes) o.1
    (subst (λ (x : Bor (List ℕ)). P x.now v.units v.scenes) o.0 h))

pub answers : Answers
answers s v o = (
  λ a seen. header-own s.now a (of-record s v o (λ (r : List ℕ) (u n : ℕ). HeaderSeen r u n a) seen),
  λ j a seen. unit-own s.now j a (of-record s v o (λ (r : List ℕ) (u n : ℕ). UnitSeen r u n j a) seen),
  λ j a seen. scene-own s.now j a (of-record s v o (λ (r : List ℕ) (u n : ℕ). SceneSeen r u n j a) seen),
)
