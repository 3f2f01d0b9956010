-- The contract of the index, by the case of the answer.
use Prim.Native.Nat.{ℕ}
use mathlib.Core.Path.{◌≡◌}
use mathlib.Core.List.{List}
use lib.Ieee.{Float}
use Rattle.rules.specs.declared.Index.{Index}
use Rattle.std.specs.Prelude.{Ok, Err}
use Rattle.rules.specs.declared.refusals.Refusal.{Refusal}
use Rattle.rules.specs.Refusals.{Answer, listed}
use Rattle.sample_questions.specs.WhileFeeding.{IndexPost}
use Rattle.c_sample.specs.Replies.{index_figures}
use Rattle.c_sample.specs.Contract.{IndexTold}

module _ (numbers luma : List ℕ) (old : List Float) (a : Answer Index) (h : IndexPost numbers luma a) where
  pub index-given : (i : Index) (new : List Float) → a ≡ Ok i → new ≡ index_figures i →
      IndexTold numbers luma old 0 0 new
  index-given i new g n = record { answer = a; made = h; numbered = rw g; placed = rw g; given = rw g n }

  pub index-refused : (d : Refusal) (r : ℕ) → a ≡ Err d → r ≡ listed d.number → IndexTold numbers luma old r d.place old
  index-refused d r g n = record { answer = a; made = h; numbered = rw g n; placed = rw g; given = rw g }
