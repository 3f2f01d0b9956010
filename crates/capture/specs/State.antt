-- What the capture side's lent arrays stand for.
use Rattle.std.specs.Prelude.{ℕ, ◌<◌, ◌≡◌, List, length, get_or}
use Rattle.rules.specs.declared.Opening.{Opening}
use Rattle.rules.specs.Refusals.{none, fault, ◌or_else◌}
use Rattle.rules.specs.Opening.{opening_fault}
use Rattle.rules.specs.Capture.{capture_fault}
use Rattle.capture_steps.specs.declared.types.Walk.{Walk}
use Rattle.capture_steps.specs.Format.{whole_cells}
use Rattle.capture_steps.specs.State as walk
use Rattle.capture_counts.specs.declared.Tally.{Tally}
use Rattle.capture_counts.specs.Counts.{Counts}

-- the four arrays
pub record Arrays : Type 0 where
  pub walk : List ℕ
  pub kept : List ℕ
  pub numbers : List ℕ
  pub table : List ℕ

abbrev pub arrays_of : List ℕ → List ℕ → List ℕ → List ℕ → Arrays
arrays_of walk kept numbers table = record { walk = walk; kept = kept; numbers = numbers; table = table }

abbrev pub loaded : List ℕ → Tally
loaded w =
    record {
      status = get_or w 0 0;
      place = get_or w 1 0;
      pid = get_or w 2 0;
      bad = get_or w 3 0;
      units = record { count = get_or w 4 0; previous = get_or w 5 0; packets = get_or w 6 0; lost = get_or w 7 0 };
      edition = get_or w 8 0;
    }

-- nothing is refused, and the whole cells are counted
pub record Live (table : List ℕ) (t : Tally) (o : Opening) (joined : List ℕ) : Type 0 where
  pub good : opening_fault o ≡ none
  pub clear : capture_fault o joined ≡ none
  pub counts : Counts table t o.edition o.pid (whole_cells joined)

-- the table and the numbers stand for the opening o and the joined bytes: a refusal stands, the opening's or the
-- first that the bytes show; or none does
pub data Counting (table : List ℕ) (t : Tally) (o : Opening) (joined : List ℕ) : Type 0 where
  stopped : opening_fault o or_else capture_fault o joined ≡ fault t.status t.place → 0 < t.status →
      Counting table t o joined
  live : Live table t o joined → Counting table t o joined

-- and so does the walk, as long as none stands
pub record Stands (kept table : List ℕ) (w : Walk) (t : Tally) (o : Opening) (joined : List ℕ) : Type 0 where
  pub counting : Counting table t o joined
  pub walking : t.status ≡ 0 → walk.Stands kept w joined

-- as they lie in the arrays between calls
pub record Means (a : Arrays) (o : Opening) (joined : List ℕ) : Type 0 where
  pub walked : length a.walk ≡ 16
  pub numbered : length a.numbers ≡ 16
  pub stands : Stands a.kept a.table (walk.loaded a.walk) (loaded a.numbers) o joined
