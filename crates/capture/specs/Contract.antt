-- What each call promises, in terms of the rules and of what the arrays stand for.
use Rattle.std.specs.Prelude.{ℕ, ◌%◌, ◌^◌, ◌≤◌, ◌<◌, ◌≡◌, List, [], ◌++◌, map, Bool, length, get_or, eqb}
use Rattle.rules.specs.declared.Opening.{Opening}
use Rattle.rules.specs.Refusals.{Answer, Fault, none, fault, ◌or_else◌}
use Rattle.rules.specs.Bytes.{pick, total}
use Rattle.rules.specs.Opening.{opening_fault}
use Rattle.rules.specs.Capture as rule
use Rattle.rules.specs.Capture.{frame_count, skipped_count, bad_count, capture_fault, capture_inside}
use Rattle.rules.specs.Seal.{capture_answer}
use Rattle.capture_steps.specs.declared.types.Walk.{Walk}
use Rattle.capture_steps.specs.declared.types.Event.{Event}
use Rattle.capture_steps.specs.Format.{whole_cells}
use Rattle.capture_steps.specs.State as walk
use Rattle.capture_steps.specs.Contract.{Tells}
use Rattle.capture_units.specs.declared.Units.{Units}
use Rattle.capture_units.specs.Units.{of_pid}
use Rattle.capture_units.specs.State as table
use Rattle.capture_counts.specs.declared.Tally.{Tally}
use Rattle.capture.specs.declared.Meter.{Meter}
use Rattle.capture.specs.declared.Summary.{Summary}
use Rattle.capture.specs.declared.Totals.{Totals}
use Rattle.capture.specs.State.{Arrays, loaded, Live, Counting, Stands, Means}

-- `open`: the opening's number, or 0, its PID and its edition; the arrays after
abbrev pub Opened : ℕ → ℕ → ℕ → Arrays → Type 0
Opened number pid edition a =
    (o : Opening) → (number ≡ 0 → opening_fault o ≡ none) → (0 < number → opening_fault o ≡ fault number 0) →
    pid ≡ o.pid → edition ≡ o.edition →
    Means a o []

-- `feed`: the arrays before, the piece, the answer, the arrays after
pub record FeedPost (before : Arrays) (piece : List ℕ) (a : Answer ℕ) (after : Arrays) : Type 0 where
  pub means : (o : Opening) (joined : List ℕ) → Means before o joined → Means after o (joined ++ piece)
  pub answer : (o : Opening) (joined : List ℕ) → Means before o joined →
      a ≡ capture_answer o (joined ++ piece) (length piece)

-- ---- `sum_up`

-- number 0 says that no refusal stands
abbrev pub standing : ℕ → ℕ → Fault
standing number place = pick (eqb number 0) none (fault number place)

-- no refusal stands: the figures are the rules'
pub record Figures (rows : List ℕ) (o : Opening) (joined : List ℕ) (r : Summary) : Type 0 where
  pub good : opening_fault o ≡ none
  pub clear : capture_fault o joined ≡ none
  pub limit : length joined ≤ 268435456
  pub fed : r.fed ≡ length joined
  pub inside : r.inside ≡ capture_inside joined
  pub frames : r.frames ≡ frame_count joined
  pub skipped : r.skipped ≡ skipped_count joined
  pub bad : r.bad ≡ bad_count o joined
  pub units : r.units ≡ length (rule.units o joined)
  pub packets : r.packets ≡ total (map (λ u. u.packets) (rule.units o joined))
  pub lost : r.lost ≡ total (map (λ u. u.lost) (rule.units o joined))
  -- the table of units, for whoever reads its rows
  pub beside : Units
  pub table : table.Stands rows beside (of_pid o.edition o.pid (whole_cells joined))
  pub few : length (of_pid o.edition o.pid (whole_cells joined)) < 2 ^ 24

pub record SumOf (rows : List ℕ) (o : Opening) (joined : List ℕ) (r : Summary) : Type 0 where
  pub refusal : opening_fault o or_else capture_fault o joined ≡ standing r.number r.place
  pub figures : r.number ≡ 0 → Figures rows o joined r

-- the walk's words and the side's numbers, the summary
abbrev pub SumsUp : List ℕ → List ℕ → Summary → Type 0
SumsUp walk numbers r =
    (kept table : List ℕ) (o : Opening) (joined : List ℕ) →
    Means (record { walk = walk; kept = kept; numbers = numbers; table = table }) o joined →
    SumOf table o joined r

-- ---- `totals_in`

abbrev pub totals_in : List ℕ → Totals
totals_in numbers =
    record {
      number = get_or numbers 0 0;
      place = get_or numbers 1 0;
      packets = get_or numbers 6 0;
      lost = get_or numbers 7 0;
    }

-- ---- of the functions within

-- what an event brings is counted
abbrev pub Takes : List ℕ → Tally → List ℕ → Walk → Event → List ℕ → Tally → Type 0
Takes table t piece w e table' r =
    (o : Opening) (kept before chunk : List ℕ) → walk.Stands kept w (before ++ chunk) →
    Tells e w piece before (before ++ chunk) → Live table t o before →
    Counting table' r o (before ++ chunk)

-- by the bytes of chunk
abbrev pub Goes : List ℕ → List ℕ → Meter → List ℕ → List ℕ → List ℕ → Meter → Type 0
Goes kept table s chunk kept' table' r =
    (o : Opening) (joined : List ℕ) → Stands kept table s.walk s.tally o joined →
    Stands kept' table' r.walk r.tally o (joined ++ chunk)

-- what a feed of n bytes answers, from the numbers after it
abbrev pub Replies : Tally → ℕ → Answer ℕ → Type 0
Replies t n a =
    (table : List ℕ) (o : Opening) (joined : List ℕ) → Counting table t o joined → a ≡ capture_answer o joined n

-- before, the numbers, after: the numbers are in the words
pub record Stored (before : List ℕ) (t : Tally) (after : List ℕ) : Type 0 where
  pub size : length after ≡ length before
  pub loads : length before ≡ 16 → loaded after ≡ t

abbrev pub summary_of : Walk → Tally → Bool → Summary
summary_of w t inside =
    record {
      number = t.status;
      place = t.place;
      fed = w.fed;
      inside = inside;
      frames = w.frames % 2 ^ 32;
      skipped = w.skipped % 2 ^ 32;
      bad = t.bad % 2 ^ 32;
      units = t.units.count % 2 ^ 32;
      packets = t.units.packets;
      lost = t.units.lost;
    }
