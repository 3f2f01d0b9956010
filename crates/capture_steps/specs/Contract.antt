-- What a step of the walk promises, and each function that it is made of.
use Prim.{Unit}
use Rattle.std.specs.Prelude.{◌≡◌, ℕ, ◌+◌, ◌*◌, ◌<◌, ◌≤◌, List, [], ◌∷◌, ◌++◌, map, length, take, drop, slice_index}
use Rattle.rules.specs.Refusals.{none, fault}
use Rattle.rules.specs.Frames.{microseconds, stored_length, frame_size}
use Rattle.rules.specs.Capture.{whole_frames, unfinished}
use Rattle.capture_laws.specs.UnderWay.{Fine}
use Rattle.capture_cells.specs.declared.Cell.{Cell}
use Rattle.capture_cells.specs.Cells.{head}
use Rattle.capture_steps.specs.declared.types.Walk.{Walk}
use Rattle.capture_steps.specs.declared.types.Run.{Run}
use Rattle.capture_steps.specs.declared.types.Event.{Event}
use Rattle.capture_steps.specs.declared.types.Event.TheVariants.{Nothing, Shown, Whole, Cells, Refused}
use Rattle.capture_steps.specs.declared.types.Step.{Step}
use Rattle.capture_steps.specs.Format.{format_fault, shown_cells, whole_cells, cells_from}
use Rattle.capture_steps.specs.State.{loaded, Core, Stands}

-- ---- a step

-- from the joined bytes to those with more behind them: no refusal, these cells are shown, these are whole
pub record Gains (before after : List ℕ) (news fulls : List Cell) : Type 0 where
  pub clear : format_fault after ≡ none
  pub shown : shown_cells after ≡ shown_cells before ++ news
  pub whole : whole_cells after ≡ whole_cells before ++ fulls

-- every cell that is shown is whole: none is under way
abbrev pub Level : List ℕ → Type 0
Level joined = shown_cells joined ≡ map head (whole_cells joined)

abbrev pub cells_of : Run → List ℕ → List Cell
cells_of r piece = cells_from r.many r.time r.place (drop r.at piece)

-- why no cell is shown before the place of a refusal: it stands already; or it is the first of these
-- bytes; or they show no cell
pub data Halts (s : Walk) (before after : List ℕ) : Type 0 where
  again : format_fault before ≡ fault s.status s.place → Halts s before after
  surplus : s.place ≡ length before → Halts s before after
  silent : shown_cells after ≡ shown_cells before → Halts s before after

-- what an event tells, of the joined bytes before and after
abbrev pub Tells : Event → Walk → List ℕ → List ℕ → List ℕ → Type 0
Tells Nothing s piece before after = Gains before after [] []
Tells (Shown c) s piece before after = Gains before after (c ∷ []) [] × Level before
Tells (Whole c) s piece before after = Gains before after [] (c ∷ []) × Level after
Tells (Cells r) s piece before after =
    Gains before after (map head (cells_of r piece)) (cells_of r piece) × Level before
Tells Refused s piece before after = (format_fault after ≡ fault s.status s.place) × Halts s before after

-- the whole cells that an event brings
abbrev pub whole_of : Event → List ℕ → List Cell
whole_of Nothing piece = []
whole_of (Shown c) piece = []
whole_of (Whole c) piece = c ∷ []
whole_of (Cells r) piece = cells_of r piece
whole_of Refused piece = []

-- a run lies whole in the piece, and before the capture's limit
abbrev pub Lies : Run → List ℕ → Type 0
Lies r piece = (r.at + 188 * r.many ≤ length piece) × (r.place + 188 * r.many ≤ 268435456)

-- what holds of an event on every state, one that stands for nothing too, so that whoever takes it needs no test
abbrev pub Fits : Event → List ℕ → Type 0
Fits Nothing piece = Unit {0}
Fits (Shown c) piece = (c.identifier < 8192) × (c.place ≤ 268435456)
Fits (Whole c) piece = c.identifier < 8192
Fits (Cells r) piece = Lies r piece
Fits Refused piece = Unit {0}

-- bytes that are refused in a turn show no cell
abbrev pub Calm : Event → List ℕ → List ℕ → Type 0
Calm Nothing before after = Unit {0}
Calm (Shown c) before after = Unit {0}
Calm (Whole c) before after = Unit {0}
Calm (Cells r) before after = Unit {0}
Calm Refused before after = shown_cells after ≡ shown_cells before

-- the walk behind the bytes of a turn, and what they brought
pub record Passed (kept : List ℕ) (r : Step) (piece before after : List ℕ) : Type 0 where
  pub stands : Stands kept r.walk after
  pub tells : Tells r.event r.walk piece before after
  pub calm : Calm r.event before after

-- kept and s, by n bytes of the piece from i on, become kept' and r
pub record Goes (kept : List ℕ) (s : Walk) (piece : List ℕ) (i n : ℕ) (kept' : List ℕ) (r : Step) : Type 0 where
  pub taken : r.taken ≡ n
  pub fits : Fits r.event piece
  pub goes : (joined : List ℕ) → Stands kept s joined → Passed kept' r piece joined (joined ++ take n (drop i piece))

-- kept and s, by the bytes t, wherever they lie in a piece, become kept' and r
pub record Moves (kept : List ℕ) (s : Walk) (t kept' : List ℕ) (r : Step) : Type 0 where
  pub taken : r.taken ≡ length t
  pub fits : (piece : List ℕ) → Fits r.event piece
  pub goes : (piece joined : List ℕ) → Stands kept s joined → Passed kept' r piece joined (joined ++ t)

-- ---- of the functions that a step is made of

-- nothing is refused, the file header is there, and n bytes more keep to the limit
pub record Going (s : Walk) (n : ℕ) : Type 0 where
  pub clear : s.status ≡ 0
  pub file : 24 ≤ s.fed
  pub limit : s.fed + n ≤ 268435456

-- the bytes t stand at the place `at`; all before it are as they were
pub record Carried (w : List ℕ) (at : ℕ) (t w' : List ℕ) : Type 0 where
  pub size : length w' ≡ length w
  pub new : length w ≡ 64 → (i : ℕ) → i < length t → slice_index w' (at + i) ≡ slice_index t i
  pub below : (k : ℕ) → k < at → slice_index w' k ≡ slice_index w k

-- of a cell's bytes t from its byte `got` on, those among its first six
pub record Collects (w : List ℕ) (got : ℕ) (t w' : List ℕ) : Type 0 where
  pub size : length w' ≡ length w
  pub new : length w ≡ 64 → (i : ℕ) → i < length t → got + i < 6 → slice_index w' (58 + (got + i)) ≡ slice_index t i
  pub below : (k : ℕ) → k < 58 + got → slice_index w' k ≡ slice_index w k

-- n bytes more, of a frame of which at bytes are there, end no later than what they are in: the header, the first 42
-- bytes behind it, the frame
pub record Within (at size n : ℕ) : Type 0 where
  pub header : at < 16 → at + n ≤ 16
  pub front : at + n ≤ 58
  pub frame : 16 ≤ at → size ≤ 65535 → at < 16 + size → at + n ≤ 16 + size

-- how many bytes the next step may take, of those that are there
pub record Span (s : Walk) (left : ℕ) (n : ℕ) : Type 0 where
  pub some : 0 < n
  pub fits : n ≤ left
  pub limit : s.fed + n ≤ 268435456
  pub magic : s.fed < 4 → s.fed + n ≤ 4
  pub file : s.fed < 24 → s.fed + n ≤ 24
  pub front : 24 ≤ s.fed → s.at < 58 → Within s.at s.size n
  pub early : 24 ≤ s.fed → 58 ≤ s.at → 0 < s.left → s.got < 4 → s.got + n < 188
  pub cell : 24 ≤ s.fed → 58 ≤ s.at → 0 < s.left → 4 ≤ s.got → s.got < 188 → s.got + n ≤ 188
  pub body : 24 ≤ s.fed → 58 ≤ s.at → s.left ≡ 0 → s.size ≤ 65535 → s.at < 16 + s.size → s.at + n ≤ 16 + s.size

-- the string x begins with a frame of n bytes that is next and all there, and shows no refusal
pub record Ahead (s : Walk) (x : List ℕ) (n : ℕ) : Type 0 where
  pub next : s.at ≡ 0
  pub behind : 24 ≤ s.fed
  pub limit : s.fed + n ≤ 268435456
  pub there : n ≤ length x
  pub size : n ≡ 16 + stored_length x
  pub long : 58 ≤ n
  pub stored : stored_length x ≤ 65535
  pub time : microseconds x ≤ 999999

-- m cells are next and all there in `left` bytes
pub record Runs (s : Walk) (left m : ℕ) : Type 0 where
  pub next : s.got ≡ 0
  pub most : m ≤ s.left
  pub limit : s.fed + 188 * m ≤ 268435456
  pub there : 188 * m ≤ left

-- bytes of a frame that are taken in, and do not pass its end
pub record Taken (kept : List ℕ) (s : Walk) (joined chunk : List ℕ) : Type 0 where
  pub start : 24 ≤ length joined
  pub fits : length (unfinished joined ++ chunk) ≤ frame_size (unfinished joined ++ chunk)
  pub fine : Fine (unfinished joined ++ chunk)
  pub core : Core kept s (whole_frames joined) (unfinished joined ++ chunk) (joined ++ chunk)

abbrev pub Settles : List ℕ → Walk → Walk → Type 0
Settles kept s r = (joined chunk : List ℕ) → Taken kept s joined chunk → Stands kept r (joined ++ chunk)

-- s, refused
abbrev pub refused_as : Walk → ℕ → ℕ → Walk
refused_as s k p =
    record {
      status = k;
      place = p;
      fed = s.fed;
      at = s.at;
      size = s.size;
      got = s.got;
      left = s.left;
      frames = s.frames;
      skipped = s.skipped;
    }

-- before, the state, after: the state is in the words
pub record Stored (before : List ℕ) (s : Walk) (after : List ℕ) : Type 0 where
  pub size : length after ≡ length before
  pub loads : length before ≡ 16 → loaded after ≡ s
