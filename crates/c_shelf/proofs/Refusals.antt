-- The refusals of a shelf's calls: none of them is renumbered.
use Prim.Native.Nat.{ℕ}
use mathlib.Core.Path.{◌≡◌, refl}
use mathlib.Core.List.{List}
use Rattle.rules.specs.Refusals.{Fault, none, fault}
use Rattle.rules.specs.Shelf.{record_count, shelf_lost, shelf_fault, part_fault, shelf_answer}
use Rattle.rules.specs.Shelf.{part_answer}
use Rattle.rules.proofs.Laws.Listed.{Numbered, shelf, part}
use Rattle.shelf_writer.specs.Writing.{shelf_length, writing_fault, writing_answer}
use Rattle.shelf_writer.proofs.Theorems.{writing-numbered}
use Rattle.c_numbers.specs.Numbers.{number_of}
use Rattle.c_numbers.proofs.Refusals.{number_in, of-answer}

pub shelf-number : (s : List ℕ) → number_of (shelf_answer s) ≡ number_in (shelf_fault s)
unfolding shelf_answer
shelf-number s = of-answer (shelf_fault s) _ (shelf s)

pub part-number : (s : List ℕ) (j : ℕ) → number_of (part_answer s j) ≡ number_in (part_fault s j)
unfolding part_answer
part-number s j = of-answer (part_fault s j) _ (part s j)

pub writing-number : (s ls : List ℕ) (m : ℕ) → number_of (writing_answer s ls m) ≡ number_in (writing_fault s ls m)
unfolding writing_answer
writing-number s ls m = of-answer (writing_fault s ls m) (shelf_length ls) (writing-numbered s ls m)
