-- What `index` promises (document 02, R-7).
use Rattle.std.specs.Prelude.{ℕ, ◌%◌, ◌^◌, ◌≡◌, List, eqb, Ok}
use Rattle.rules.specs.declared.Index.{Index}
use Rattle.rules.specs.Refusals.{Answer, answer, Fault, none, fault, ◌or_else◌, listed}
use Rattle.rules.specs.Bytes.{pick}
use Rattle.rules.specs.Calls.{index, indexed}
use Rattle.index.specs.Counts.{NoNan, taken}
use Rattle.capture.specs.declared.Totals as of-capture
use Rattle.capture.specs.Contract as side-capture
use Rattle.luma.specs.declared.Totals as of-luma
use Rattle.luma.specs.Contract as side-luma
use Rattle.sample_questions.specs.Contract.{Asked}

-- the refusal that stands on a side, with a number of the table; number 0 says that none does
abbrev pub kept_as : ℕ → ℕ → Fault
kept_as number place = pick (eqb number 0) none (fault (listed number) place)

-- refusal k where nothing is counted
abbrev pub none_of : ℕ → ℕ → Fault
none_of k count = pick (eqb count 0) (fault k 0) none

-- the answer from the totals and the refusals kept, and from nothing else: of any state, somebody else's too
abbrev pub index_by : of-capture.Totals → of-luma.Totals → Answer Index
index_by c l =
    answer
    (kept_as c.number c.place
    or_else kept_as l.number l.place
    or_else none_of 12 c.packets
    or_else none_of 14 l.pictures)
    (taken (l.fresh % 2 ^ 32) (l.pictures % 2 ^ 32) (c.packets % 2 ^ 32) (c.lost % 2 ^ 32))

-- `index`: the capture side's numbers, the luma words, the answer
pub record IndexPost (numbers luma : List ℕ) (r : Answer Index) : Type 0 where
  -- it reads the totals and the refusals kept, and no other word
  pub reads : r ≡ index_by (side-capture.totals_in numbers) (side-luma.totals_in luma)
  -- whatever stands in the other arrays, it is the rule's reply
  pub asked : (walk kept table : List ℕ) →
      Asked (record { capture = record { walk = walk; kept = kept; numbers = numbers; table = table }; luma = luma })
      index (indexed r)
  -- none of the three that it gives is a NaN, of any state
  pub given : (i : Index) → r ≡ Ok i → NoNan i
