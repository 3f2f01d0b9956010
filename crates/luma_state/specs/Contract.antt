-- What each function promises.
use Rattle.std.specs.Prelude.{ℕ, ◌≤◌, ◌≡◌, List, Bool, true, length, get_or}
use Rattle.luma_state.specs.declared.Grid.{Grid}
use Rattle.luma_state.specs.declared.Progress.{Progress}
use Rattle.luma_state.specs.Layout.{word_count}
use Rattle.luma_state.specs.State.{loaded, Sane}

pub record Stored (before : List ℕ) (s : Progress) (after : List ℕ) : Type 0 where
  pub size : length after ≡ length before
  pub loads : length before ≡ word_count → loaded after ≡ s
  pub kept : (i : ℕ) → 12 ≤ i → get_or after i 0 ≡ get_or before i 0

pub record Placed (g : Grid) (s : Progress) (r : Bool) : Type 0 where
  pub sound : r ≡ true → Sane g s
  pub whole : Sane g s → r ≡ true
