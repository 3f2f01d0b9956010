-- What each call promises.
use Rattle.std.specs.Prelude.{ℕ, ◌+◌, ◌≤◌, ◌<◌, ◌≡◌, List, [], ◌++◌, Bool, length, take, drop}
use Rattle.rules.specs.Capture.{capture_inside}
use Rattle.capture_steps.specs.declared.types.Walk.{Walk}
use Rattle.capture_steps.specs.declared.types.Step.{Step}
use Rattle.capture_steps.specs.State.{Stands, Means}
use Rattle.capture_steps.specs.Contract.{Tells, Fits, Goes}

-- `open`
abbrev pub Opened : List ℕ → List ℕ → Type 0
Opened words kept = Means words kept []

-- `inside`: the capture ends inside its header or a frame
abbrev pub Asks : Walk → Bool → Type 0
Asks s r = (kept joined : List ℕ) → s.status ≡ 0 → Stands kept s joined → r ≡ capture_inside joined

-- the walk behind the bytes, and what they brought
pub record Stood (kept : List ℕ) (r : Step) (piece before after : List ℕ) : Type 0 where
  pub stands : Stands kept r.walk after
  pub tells : Tells r.event r.walk piece before after

-- `next`
pub record Stepped (kept : List ℕ) (s : Walk) (piece : List ℕ) (i : ℕ) (kept' : List ℕ) (r : Step) : Type 0 where
  pub some : 0 < r.taken
  pub most : i + r.taken ≤ length piece
  pub fits : Fits r.event piece
  pub goes : (joined : List ℕ) → Stands kept s joined →
      Stood kept' r piece joined (joined ++ take r.taken (drop i piece))

-- `turn`
pub record Turned (kept : List ℕ) (s : Walk) (piece : List ℕ) (i : ℕ) (kept' : List ℕ) (r : Step) : Type 0 where
  pub some : 0 < r.taken
  pub most : i + r.taken ≤ length piece
  pub goes : Goes kept s piece i r.taken kept' r
