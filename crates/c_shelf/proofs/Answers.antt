-- The contracts of a shelf's C functions, by the case of the answer.
use Prim.Native.Nat.{ℕ}
use mathlib.Core.Path.{◌≡◌}
use mathlib.Core.List.{List, [], ◌∷◌}
use Rattle.std.specs.Prelude.{Ok, Err}
use Rattle.rules.specs.declared.refusals.Refusal.{Refusal}
use Rattle.rules.specs.declared.Part.{Part}
use Rattle.rules.specs.declared.ShelfTotals.{ShelfTotals}
use Rattle.rules.specs.Refusals.{Answer, listed}
use Rattle.rules.specs.Shelf.{shelf_answer, part_answer}
use Rattle.c_shelf.specs.Contract.{ShelfOpened, PartTaken}

module _ (s old : List ℕ) (a : Answer ShelfTotals) (e : a ≡ shelf_answer s) where
  pub shelf-done : (x : ShelfTotals) → a ≡ Ok x → ShelfOpened s old 0 0 (x.records ∷ x.lost ∷ [])
  shelf-done x g = record { numbered = rw (← e, g); placed = rw (← e, g); given = rw (← e, g) }

  pub shelf-refused : (d : Refusal) (r : ℕ) → a ≡ Err d → r ≡ listed d.number → ShelfOpened s old r d.place old
  shelf-refused d r g n = record { numbered = rw (← e, g) n; placed = rw (← e, g); given = rw (← e, g) }

module _ (s : List ℕ) (j : ℕ) (old : List ℕ) (a : Answer Part) (e : a ≡ part_answer s j) where
  pub part-done : (x : Part) → a ≡ Ok x → PartTaken s j old 0 0 (x.start ∷ x.end ∷ [])
  part-done x g = record { numbered = rw (← e, g); placed = rw (← e, g); given = rw (← e, g) }

  pub part-refused : (d : Refusal) (r : ℕ) → a ≡ Err d → r ≡ listed d.number → PartTaken s j old r d.place old
  part-refused d r g n = record { numbered = rw (← e, g) n; placed = rw (← e, g); given = rw (← e, g) }
