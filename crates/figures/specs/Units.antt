-- Units: what `gap_loss` promises.
use Rattle.std.specs.Prelude.{ℕ, ◌%◌, ◌≤◌, ◌≡◌}
use Rattle.rules.specs.Units.{gap_loss}

-- r is what two counters show as lost, of whose numbers the low 4 bits count
pub record GapLoss (before now r : ℕ) : Type 0 where
  pub counted : r ≡ gap_loss (before % 16) (now % 16)
  pub few : r ≤ 14
