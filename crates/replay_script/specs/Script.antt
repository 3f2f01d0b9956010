-- What a script says, and the room that its calls' outcomes take.
use Rattle.std.specs.Prelude.{ℕ, zero, suc, ◌+◌, ◌-◌, List, [], ◌∷◌, ltb, eqb, length, take, drop, replicate}
use Rattle.std.specs.Prelude.{Option, Some, None}
use Rattle.rules.specs.declared.Opening.{Opening}
use Rattle.rules.specs.Bytes.{pick, byte, word32}
use Rattle.rules.specs.Calls.{Question, seal, index, repeats, Call, feed_capture, feed_luma, ask}
use Rattle.replay_script.specs.declared.Head.{Head}
use Rattle.replay_script.specs.declared.Head.TheVariants.{Capture, Luma, Seal, Index, Repeats}

-- ---- what a script says

-- a word of the opening; 0 where the script ends before the word does
unfoldable pub word_at : List ℕ → ℕ → ℕ
word_at script at = pick (ltb (length script) (at + 4)) 0 (word32 script at)

-- W, H, d, PID and the rule edition
abbrev pub opening_of : List ℕ → Opening
opening_of script =
    record {
      width = word_at script 0;
      height = word_at script 4;
      time = word_at script 8;
      pid = word_at script 12;
      edition = word_at script 16;
    }

-- the call that begins with the byte `kind` and the length n, where `left` bytes of the script are left, those five
-- among them: S, C, L; none where the script ends before the call does
unfoldable pub head_by : ℕ → ℕ → ℕ → Option Head
head_by left kind n =
    pick (ltb left 5) None (pick (eqb kind 83) (Some (Seal n))
    (pick (ltb (left - 5) n) None (pick (eqb kind 67) (Some (Capture n)) (pick (eqb kind 76) (Some (Luma n)) None))))

-- the call that begins with R and the words a and b, where `left` bytes of the script are left, those nine among them
unfoldable pub passage_by : ℕ → ℕ → ℕ → Option Head
passage_by left a b = pick (ltb left 9) None (Some (Repeats a b))

-- the head that the script has at a place: I is a call by itself, R has two words
abbrev pub head_at : List ℕ → ℕ → Option Head
head_at script at =
    pick (eqb (byte script at) 73) (Some Index)
    (pick (eqb (byte script at) 82)
    (passage_by (length script - at) (word32 script (at + 1)) (word32 script (at + 5)))
    (head_by (length script - at) (byte script at) (word32 script (at + 1))))

-- the calls from a place on, of which the first has this head; none where there is no head
abbrev pub calls_with : Option Head → List ℕ → ℕ → (ℕ → List Call) → List Call
calls_with None script at more = []
calls_with (Some (Capture n)) script at more = feed_capture (take n (drop (at + 5) script)) ∷ more (at + 5 + n)
calls_with (Some (Luma n)) script at more = feed_luma (take n (drop (at + 5) script)) ∷ more (at + 5 + n)
calls_with (Some (Seal n)) script at more = ask (seal (replicate n 0xA5)) ∷ more (at + 5)
calls_with (Some Index) script at more = ask index ∷ more (at + 1)
calls_with (Some (Repeats a b)) script at more = ask (repeats a b) ∷ more (at + 9)

-- at most as many calls as the first number says
unfoldable pub calls_by : ℕ → List ℕ → ℕ → List Call
calls_by zero script at = []
calls_by (suc f) script at = calls_with (head_at script at) script at (calls_by f script)

-- a script has fewer calls than bytes
unfoldable pub calls_of : List ℕ → List Call
calls_of script = calls_by (length script) script 20

-- ---- the room of outcomes

-- how many bytes a question's reply takes, and a call's outcome
abbrev pub reply_room : Question → ℕ
reply_room (seal buffer) = 17 + length buffer
reply_room index = 25
reply_room (repeats a b) = 17

abbrev pub room_of : Call → ℕ
room_of (feed_capture piece) = 17
room_of (feed_luma piece) = 17
room_of (ask q) = reply_room q

-- how many the outcomes of all calls take
unfoldable pub room : List Call → ℕ
room [] = 0
room (c ∷ cs) = room_of c + room cs

-- the bytes that the opening's answer and the outcomes of all calls take
abbrev pub room_for : List ℕ → ℕ
room_for script = 17 + room (calls_of script)

-- ---- of the functions within

-- where the next call stands
abbrev pub next_of : Head → ℕ → ℕ
next_of (Capture n) at = at + 5 + n
next_of (Luma n) at = at + 5 + n
next_of (Seal n) at = at + 5
next_of Index at = at + 1
next_of (Repeats a b) at = at + 9

-- how many bytes the outcome of a call with this head takes
abbrev pub size_of : Head → ℕ
size_of (Capture n) = 17
size_of (Luma n) = 17
size_of (Seal n) = 17 + n
size_of Index = 25
size_of (Repeats a b) = 17
