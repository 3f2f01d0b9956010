-- What the functions within the crate promise.
use Rattle.std.specs.Prelude.{ℕ, ◌*◌, ◌≤◌, ◌≡◌, List}
use Rattle.rules.specs.Bytes.{word32}
use Rattle.record_reader.specs.declared.RowCounts.{RowCounts}
use Rattle.record_verify.specs.declared.UnitTotals.{UnitTotals}
use Rattle.record_verify.specs.Totals.{packets_total, lost_total, damaged_total}

-- the counts that a record's header says
abbrev pub CountsOf : List ℕ → RowCounts → Type 0
CountsOf r c = (c.units ≡ word32 r 8) × (c.scenes ≡ word32 r 16)

-- the totals of a record's unit rows, and that each of at most 750 rows added a 32-bit word
pub record UnitTotalsOf (r : List ℕ) (t : UnitTotals) : Type 0 where
  pub packets : t.packets ≡ packets_total r
  pub lost : t.lost ≡ lost_total r
  pub damaged : t.damaged ≡ damaged_total r
  pub few_packets : t.packets ≤ 4294967295 * 750
  pub few_lost : t.lost ≤ 4294967295 * 750
  pub few_damaged : t.damaged ≤ 4294967295 * 750
