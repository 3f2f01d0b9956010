-- What running a script comes to, and what `replay` promises: demand 3's equation about the whole list of calls.
use Rattle.std.specs.Prelude.{ℕ, ◌≤◌, ◌<◌, ◌≡◌, List, [], ◌∷◌, ◌++◌, Bool, leb, length, drop, Some}
use Rattle.rules.specs.Refusals.{Answer}
use Rattle.rules.specs.Bytes.{pick}
use Rattle.rules.specs.Opening.{open_answer}
use Rattle.rules.specs.Calls.{Question, Reply, Call, Outcome, fed, expected}
use Rattle.sample_questions.specs.State.{State, Words}
use Rattle.sample_questions.specs.Contract.{Asked}
use Rattle.sample.specs.Owned.{CaptureFed, LumaFed}
use Rattle.sample.specs.Calls.{Ran, Runs}
use Rattle.replay_script.specs.declared.Head.{Head}
use Rattle.replay_script.specs.Script.{opening_of, head_at, calls_with, calls_of, room_of, room, room_for, size_of}
use Rattle.replay_outcomes.specs.Codes.{code, reply_code, code_of, codes}

-- the opening's answer and all that the rules give for the whole list of the script's calls,
-- and behind it out as it was
abbrev pub replayed : List ℕ → List ℕ → List ℕ
replayed script out =
    codes (fed (open_answer (opening_of script)) ∷ expected (opening_of script) [] [] (calls_of script))
    ++ drop (room_for script) out

-- THE PROMISE: the answer says whether there is room; if there is, out is what the rules give,
-- otherwise it stands as it was
pub record Replayed (script out : List ℕ) (r : Bool) (out' : List ℕ) : Type 0 where
  pub answer : r ≡ leb (room_for script) (length out)
  pub buffer : out' ≡ pick r (replayed script out) out

-- ---- of the functions within

-- a feed of the capture side, and its code
pub record FedCapture (st : State) (piece : List ℕ) (st' : State) (out' : List ℕ) : Type 0 where
  pub answer : Answer ℕ
  pub post : CaptureFed st piece answer st'
  pub wrote : out' ≡ code answer

-- a feed of the luma side, and its code
pub record FedLuma (st : State) (piece : List ℕ) (st' : State) (out' : List ℕ) : Type 0 where
  pub answer : Answer ℕ
  pub post : LumaFed st piece answer st'
  pub wrote : out' ≡ code answer

-- a question, and the code of its reply
pub record Replied (w : Words) (q : Question) (out' : List ℕ) : Type 0 where
  pub reply : Reply
  pub post : Asked w q reply
  pub wrote : out' ≡ reply_code reply

-- a call's head stands there, and its outcome takes n bytes
pub record Called (script : List ℕ) (at : ℕ) (h : Head) (n : ℕ) : Type 0 where
  pub here : Some h ≡ head_at script at
  pub inside : at < length script
  pub size : n ≡ size_of h

-- the call that the script has there, what it came to, and where the next one stands
pub record CallPost (st : State) (script : List ℕ) (at : ℕ) (h : Head) (next : ℕ) (st' : State)
    (out' : List ℕ) : Type 0 where
  pub call : Call
  pub outcome : Outcome
  pub first : (more : ℕ → List Call) → calls_with (Some h) script at more ≡ call ∷ more next
  pub ran : Ran st call outcome st'
  pub wrote : out' ≡ code_of outcome
  pub size : size_of h ≡ room_of call
  pub on : at < next

-- a run of all calls of a script, and their codes at the front of out
pub record Played (st : State) (script out out' : List ℕ) : Type 0 where
  pub outcomes : List Outcome
  pub end : State
  pub ran : Runs st (calls_of script) outcomes end
  pub wrote : out' ≡ codes outcomes ++ drop (room (calls_of script)) out

-- there is such a run, if there is room
abbrev pub All : State → List ℕ → List ℕ → List ℕ → Type 0
All st script out out' = room (calls_of script) ≤ length out → Played st script out out'
