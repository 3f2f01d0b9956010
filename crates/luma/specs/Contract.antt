-- What each function of the luma side promises. What the arrays stand for is `Means`, in the crate `luma_state`.
use Rattle.std.specs.Prelude.{◌≡◌, ℕ, ◌+◌, ◌-◌, ◌*◌, ◌%◌, ◌^◌, ◌<◌, ◌≤◌, Bool, true, false, List, [], ◌++◌, length}
use Rattle.std.specs.Prelude.{take, ◌==◌, slice_index}
use Rattle.rules.specs.declared.Opening.{Opening}
use Rattle.rules.specs.Refusals.{Answer, none, fault, ◌or_else◌}
use Rattle.rules.specs.Bytes.{pick, Bytes}
use Rattle.rules.specs.Opening.{opening_fault, open_answer}
use Rattle.rules.specs.Pictures.{picture_count, luma_fault}
use Rattle.rules.specs.Seal.{reduced, unrepeated, luma_unfinished, luma_answer}
use Rattle.luma_state.specs.declared.Grid.{Grid}
use Rattle.luma_state.specs.declared.Progress.{Progress}
use Rattle.luma_rows.specs.declared.Taken.{Taken}
use Rattle.luma.specs.declared.Summary.{Summary}
use Rattle.luma.specs.declared.Totals.{Totals}
use Rattle.luma_state.specs.State.{grid_of, Words, Live, Sane, Stands, Means, moves_in, Holding, Fits, Goes}
use Rattle.luma_rows.specs.Contract.{Loose, Took}
use Rattle.luma_state.specs.Steps.{placed_at, counted_as}

-- ---- the calls

-- the opening, the answer, the arrays after
pub record OpenPost (o : Opening) (a : Answer ℕ) (luma sums bins picture : List ℕ) : Type 0 where
  pub answer : a ≡ open_answer o
  pub means : Means luma sums bins picture o []

-- the arrays before, the piece, the answer, the arrays after
pub record FeedPost (luma sums bins picture piece : List ℕ) (a : Answer ℕ)
    (luma' sums' bins' picture' : List ℕ) : Type 0 where
  pub means : (o : Opening) (joined : List ℕ) → Means luma sums bins picture o joined →
      Means luma' sums' bins' picture' o (joined ++ piece)
  pub answer : (o : Opening) (joined : List ℕ) → Means luma sums bins picture o joined →
      a ≡ luma_answer o (joined ++ piece) (length piece)

-- what a seal needs of the luma side, where no refusal stands: every figure is the rule's
pub record Known (luma : List ℕ) (o : Opening) (joined : List ℕ) (r : Summary) : Type 0 where
  pub opened : opening_fault o ≡ none
  pub clear : luma_fault o joined ≡ none
  pub bytes : Bytes joined
  pub fed : r.fed ≡ length joined
  pub inside : luma_unfinished o joined ≡ pick r.inside (fault 13 (length joined)) none
  pub pictures : r.pictures ≡ picture_count o joined
  pub fresh : r.fresh ≡ unrepeated o joined
  pub words : Words o (reduced o joined) luma

-- the refusal that stands, or the figures
pub record Summarised (luma : List ℕ) (o : Opening) (joined : List ℕ) (r : Summary) : Type 0 where
  pub refused : 0 < r.status → opening_fault o or_else luma_fault o joined ≡ fault r.status r.place
  pub live : r.status ≡ 0 → Known luma o joined r

abbrev pub SummaryPost : List ℕ → Summary → Type 0
SummaryPost luma r = (sums bins picture : List ℕ) (o : Opening) (joined : List ℕ) →
    Means luma sums bins picture o joined → Summarised luma o joined r

-- `totals_in`
abbrev pub totals_in : List ℕ → Totals
totals_in luma =
    record {
      number = slice_index luma 0;
      place = slice_index luma 1;
      pictures = slice_index luma 3;
      fresh = slice_index luma 4;
    }

-- the place is not a picture's start
abbrev pub inside_of : Progress → Bool
inside_of s = pick (s.line == 0) (pick (s.row == 0) (pick (s.col == 0) false true) true) true

-- ---- steps through a piece

-- what `finish` asks
pub record Finishing (g : Grid) (t : Taken) : Type 0 where
  pub fits : Fits g
  pub loose : Loose g t.state
  pub more : t.state.pictures < 750

pub record Finished (g : Grid) (t : Taken) (luma bins : List ℕ) (r : Taken) (luma' bins' : List ℕ) : Type 0 where
  pub used : r.used ≡ t.used
  pub sane : Sane g r.state
  pub goes : (sums picture : List ℕ) → Goes g t.state luma sums bins picture [] r.state luma' sums bins' picture

abbrev pub Passed : Grid → Progress → List ℕ → Taken → Type 0
Passed g s rest r = (sums bins picture : List ℕ) → Took g s sums bins picture rest r sums bins picture

pub record Stepped (g : Grid) (s : Progress) (luma sums bins picture rest : List ℕ) (r : Taken)
    (luma' sums' bins' picture' : List ℕ) : Type 0 where
  pub some : 0 < r.used
  pub most : r.used ≤ length rest
  pub sane : Sane g r.state
  pub goes : Goes g s luma sums bins picture (take r.used rest) r.state luma' sums' bins' picture'

-- a whole piece
abbrev pub Ran : Grid → Progress → List ℕ → List ℕ → List ℕ → List ℕ → List ℕ → Progress → List ℕ → List ℕ → List ℕ →
    List ℕ → Type 0
Ran g s luma sums bins picture piece r luma' sums' bins' picture' =
    (o : Opening) (joined : List ℕ) → opening_fault o ≡ none → g ≡ grid_of o →
    Live g o s luma sums bins picture joined →
    Holding o r luma' sums' bins' picture' (joined ++ piece)

-- what a feed of n bytes answers
abbrev pub Replied : Progress → ℕ → Answer ℕ → Type 0
Replied s n a = (o : Opening) (luma sums bins picture joined : List ℕ) → Stands o s luma sums bins picture joined →
    a ≡ luma_answer o joined n

-- `used` bytes of the surplus rows more
abbrev pub passed_on : Progress → ℕ → Progress
passed_on s used = placed_at s ((s.fed + used) % 2 ^ 64) s.line s.row s.col (s.left - used) (moves_in s)

-- a refusal 10
abbrev pub stopped_at : Grid → Progress → Progress
stopped_at g s = counted_as s 10 (750 * g.bytes) s.pictures s.fresh
