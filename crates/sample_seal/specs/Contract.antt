-- What `seal` promises, in terms of the rules and of what the lent arrays stand for.
use Rattle.std.specs.Prelude.{ℕ, ◌≤◌, ◌≡◌, List}
use Rattle.rules.specs.declared.Opening.{Opening}
use Rattle.rules.specs.Refusals.{Answer}
use Rattle.rules.specs.declared.Header.{Header}
use Rattle.rules.specs.Seal.{sealed_length, no_room, seal_fault}
use Rattle.rules.specs.Calls.{seal, sealed_into, answer_to}
use Rattle.capture.specs.declared.Summary.{Summary}
use Rattle.capture.specs.Contract.{Figures}
use Rattle.luma.specs.declared.Summary as of-luma
use Rattle.luma.specs.Contract.{Known}
use Rattle.sample_questions.specs.State.{Words}
use Rattle.sample_questions.specs.Contract.{Leaves, Asked}

-- `seal`: the words, the buffer before, the answer, the buffer after
abbrev pub SealPost : Words → List ℕ → Answer ℕ → List ℕ → Type 0
SealPost w before a after = Asked w (seal before) (sealed_into a after)

-- ---- of the functions within

-- a header of an opening, of what the capture side counted, of pictures and scenes, and of the index's bits
abbrev pub header_by : Opening → Summary → ℕ → ℕ → ℕ → Header
header_by o c pictures scenes index =
    record {
      edition = o.edition;
      units = c.units;
      scenes = scenes;
      width = o.width;
      height = o.height;
      time = o.time;
      pid = o.pid;
      pictures = pictures;
      frames = c.frames;
      skipped = c.skipped;
      bad = c.bad;
      index = index;
    }

-- nothing but a short buffer refuses a seal of what the words stand for
pub record Ready (table luma : List ℕ) (o : Opening) (fed_capture fed_luma : List ℕ) (c : Summary)
    (l : of-luma.Summary) : Type 0 where
  pub figures : Figures table o fed_capture c
  pub known : Known luma o fed_luma l
  pub units : 1 ≤ c.units
  pub some : 1 ≤ l.pictures
  pub free : (n : ℕ) → seal_fault o fed_capture fed_luma n ≡ no_room n (sealed_length o fed_capture fed_luma)

pub record WritePost (table luma : List ℕ) (o : Opening) (c : Summary) (l : of-luma.Summary)
    (before : List ℕ) (a : Answer ℕ)
    (after : List ℕ) : Type 0 where
  pub rule : (fed_capture fed_luma : List ℕ) → Ready table luma o fed_capture fed_luma c l →
      sealed_into a after ≡ answer_to o fed_capture fed_luma (seal before)
  pub refusals : Leaves (seal before) (sealed_into a after)
