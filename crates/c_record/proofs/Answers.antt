-- The contracts of the reading functions, by the case of the answer.
use Prim.Native.Nat.{ℕ}
use mathlib.Core.Path.{◌≡◌, sym, ◌∙◌}
use mathlib.Core.List.{List}
use Rattle.rules.specs.declared.Header.{Header}
use Rattle.rules.specs.declared.UnitRow.{UnitRow}
use Rattle.rules.specs.declared.SceneRow.{SceneRow}
use Rattle.std.specs.Prelude.{Ok, Err}
use Rattle.rules.specs.declared.refusals.Refusal.{Refusal}
use Rattle.rules.specs.Refusals.{Answer, listed}
use Rattle.rules.specs.Reading.{header_answer, unit_answer, scene_answer}
use Rattle.index.specs.Counts.{NoNan}
use Rattle.record_laws.proofs.Words.{EachByte}
use Rattle.record_verify.specs.declared.Reached.{Reached}
use Rattle.record_verify.specs.declared.Failing.{Failing}
use Rattle.record_verify.specs.declared.Verdict.{Verdict}
use Rattle.record_verify.specs.declared.Verdict.TheVariants as of-verdict
use Rattle.record_verify.specs.Marks.{verdict_of}
use Rattle.record_verify.proofs.Bound.{could-be-numbers}
use Rattle.record_rows.specs.Rows.{unit_figures, scene_figures}
use Rattle.c_record.specs.Figures.{figures_of, not_sealed, reached_figures, failing_figures}
use Rattle.c_record.specs.Contract.{HeaderRead, UnitRead, SceneRead, Verified}

module _ (b old : List ℕ) (a : Answer Header) (e : a ≡ header_answer b) where
  pub header-done : (h : Header) (new : List ℕ) → a ≡ Ok h → new ≡ figures_of h → HeaderRead b old 0 new
  header-done h new g n = record { numbered = rw (← e, g); given = rw (← e, g) n }

  pub header-refused : (d : Refusal) (r : ℕ) → a ≡ Err d → r ≡ listed d.number → HeaderRead b old r old
  header-refused d r g n = record { numbered = rw (← e, g) n; given = rw (← e, g) }

module _ (b : List ℕ) (j : ℕ) (old : List ℕ) (a : Answer UnitRow) (e : a ≡ unit_answer b j) where
  pub unit-done : (u : UnitRow) (new : List ℕ) → a ≡ Ok u → new ≡ unit_figures u → UnitRead b j old 0 new
  unit-done u new g n = record { numbered = rw (← e, g); given = rw (← e, g) n }

  pub unit-refused : (d : Refusal) (r : ℕ) → a ≡ Err d → r ≡ listed d.number → UnitRead b j old r old
  unit-refused d r g n = record { numbered = rw (← e, g) n; given = rw (← e, g) }

module _ (b : List ℕ) (j : ℕ) (old : List ℕ) (a : Answer SceneRow) (e : a ≡ scene_answer b j) where
  pub scene-done : (s : SceneRow) (new : List ℕ) → a ≡ Ok s → new ≡ scene_figures s → SceneRead b j old 0
      new
  scene-done s new g n = record { numbered = rw (← e, g); given = rw (← e, g) n }

  pub scene-refused : (d : Refusal) (r : ℕ) → a ≡ Err d → r ≡ listed d.number → SceneRead b j old r old
  scene-refused d r g n = record { numbered = rw (← e, g) n; given = rw (← e, g) }

module _ (b old : List ℕ) (v : Answer Verdict) (e : v ≡ verdict_of b) where
  pub verdict-numbers : EachByte b → (x : Reached) → v ≡ Ok (of-verdict.CouldBeSealed x) → NoNan x.index
  verdict-numbers h x g = could-be-numbers b h x (sym e ∙ g)

  pub verdict-could : (x : Reached) (new : List ℕ) → v ≡ Ok (of-verdict.CouldBeSealed x) → new ≡ reached_figures x →
      Verified b old 0 new
  verdict-could x new g n = record { numbered = rw (← e, g); given = rw (← e, g) n }

  pub verdict-could-not : (f : Failing) (new : List ℕ) → v ≡ Ok (of-verdict.CouldNotBeSealed f) →
      new ≡ failing_figures f → Verified b old not_sealed new
  verdict-could-not f new g n = record { numbered = rw (← e, g); given = rw (← e, g) n }

  pub verdict-refused : (d : Refusal) (r : ℕ) → v ≡ Err d → r ≡ listed d.number → Verified b old r old
  verdict-refused d r g n = record { numbered = rw (← e, g) n; given = rw (← e, g) }
