-- What the walk's numbers and its collected bytes stand for. kept: bytes 0 to 57 of the frame that is not whole yet
-- (or of the file header, as far as it is there), and behind them bytes 0 to 5 of the cell under way.
use Rattle.std.specs.Prelude.{◌≡◌, ℕ, ◌+◌, ◌*◌, ◌<◌, ◌≤◌, List, length, slice_index}
use Rattle.rules.specs.Bytes.{byte}
use Rattle.rules.specs.Refusals.{none, fault}
use Rattle.rules.specs.Frames.{stored_length}
use Rattle.rules.specs.Packets.{skipped}
use Rattle.rules.specs.Capture.{whole_frames, unfinished}
use Rattle.capture_laws.specs.UnderWay.{Split, current}
use Rattle.capture_steps.specs.declared.types.Walk.{Walk}
use Rattle.capture_steps.specs.Format.{format_fault}

abbrev pub loaded : List ℕ → Walk
loaded w =
    record {
      status = slice_index w 0;
      place = slice_index w 1;
      fed = slice_index w 2;
      at = slice_index w 3;
      size = slice_index w 4;
      got = slice_index w 5;
      left = slice_index w 6;
      frames = slice_index w 7;
      skipped = slice_index w 8;
    }

-- the cells of the frame of which the bytes r are there, once its first 58 are: how many are behind, how many are
-- not, and how far the first of these is there
pub record Under (kept : List ℕ) (s : Walk) (r : List ℕ) : Type 0 where
  pub behind : ℕ
  pub split : Split r behind s.left
  pub going : 0 < s.left → length r ≡ 58 + 188 * behind + s.got
  pub part : 0 < s.left → s.got < 188
  pub first : 0 < s.left → (i : ℕ) → i < s.got → i < 6 → slice_index kept (58 + i) ≡ byte (current r behind) i

-- the joined bytes show no refusal. fs are the frames that are counted, r the bytes behind them
pub record Core (kept : List ℕ) (s : Walk) (fs : List (List ℕ)) (r joined : List ℕ) : Type 0 where
  pub room : length kept ≡ 64
  pub status : s.status ≡ 0
  pub clear : format_fault joined ≡ none
  pub fed : s.fed ≡ length joined
  pub frames : s.frames ≡ length fs
  pub skipped : s.skipped ≡ skipped fs
  pub many : s.at ≡ length r
  pub size : 12 ≤ length r → s.size ≡ stored_length r
  pub bytes : (i : ℕ) → i < length r → i < 58 → slice_index kept i ≡ byte r i
  pub under : 58 ≤ length r → Under kept s r

-- inside the file header
pub record Head (kept : List ℕ) (s : Walk) (joined : List ℕ) : Type 0 where
  pub room : length kept ≡ 64
  pub status : s.status ≡ 0
  pub clear : format_fault joined ≡ none
  pub fed : s.fed ≡ length joined
  pub short : length joined < 24
  pub frames : s.frames ≡ 0
  pub skipped : s.skipped ≡ 0
  pub many : s.at ≡ 0
  pub bytes : (i : ℕ) → i < length joined → slice_index kept i ≡ byte joined i

-- the collected bytes and the numbers stand for the joined bytes: a refusal stands; or the file header is not whole;
-- or the frames are under way
pub data Stands (kept : List ℕ) (s : Walk) (joined : List ℕ) : Type 0 where
  refused : length kept ≡ 64 → format_fault joined ≡ fault s.status s.place → 0 < s.status → Stands kept s joined
  head : Head kept s joined → Stands kept s joined
  live : 24 ≤ length joined → Core kept s (whole_frames joined) (unfinished joined) joined → Stands kept s joined

-- as they lie in the lent arrays between calls
pub record Means (words kept joined : List ℕ) : Type 0 where
  pub room : length words ≡ 16
  pub stands : Stands kept (loaded words) joined
