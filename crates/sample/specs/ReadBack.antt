-- Demand 2, as one statement: what a seal left in its buffer, read, gives the figures of the rule.
use Rattle.std.specs.Prelude.{ℕ, ◌<◌, ◌≡◌, List, [], ◌∷◌, ◌++◌, length, take, get_or, Ok}
use Rattle.rules.specs.declared.Opening.{Opening}
use Rattle.rules.specs.Refusals.{Answer}
use Rattle.rules.specs.declared.UnitRow.{UnitRow}
use Rattle.rules.specs.declared.SceneRow.{SceneRow}
use Rattle.rules.specs.Bytes.{Bytes}
use Rattle.rules.specs.Capture.{units}
use Rattle.rules.specs.Reading.{header_answer, unit_answer, scene_answer}
use Rattle.rules.specs.Seal as rule
use Rattle.rules.specs.Calls.{seal, sealed_into, Call, ask, Outcome, replied, capture_fed, luma_fed}
use Rattle.sample_questions.specs.State.{State}
use Rattle.sample.specs.Contract.{OpenPost}
use Rattle.sample.specs.Calls.{Runs}

-- r reads as the figures of an opening and of the joined bytes of the two sides
pub record ReadsAs (o : Opening) (capture luma r : List ℕ) : Type 0 where
  pub header : header_answer r ≡ Ok (rule.header o capture luma)
  pub unit : (j : ℕ) (z : UnitRow) → j < length (units o capture) →
      unit_answer r j ≡ Ok (get_or (units o capture) j z)
  pub scene : (j : ℕ) (z : SceneRow) → j < length (rule.scenes o luma) →
      scene_answer r j ≡ Ok (get_or (rule.scenes o luma) j z)

-- THE STATEMENT: after any list of calls, a seal that is done answers n, and the first n bytes of its buffer read so
abbrev pub SealReadsBack : Type 0
SealReadsBack =
    (o : Opening) (a : Answer ℕ) (st end : State) (cs : List Call) (os : List Outcome) (before after : List ℕ) (n : ℕ) →
    OpenPost o a st → Bytes (capture_fed cs) → Bytes (luma_fed cs) →
    Runs st (cs ++ ask (seal before) ∷ []) (os ++ replied (sealed_into (Ok n) after) ∷ []) end →
    ReadsAs o (capture_fed cs) (luma_fed cs) (take n after)
