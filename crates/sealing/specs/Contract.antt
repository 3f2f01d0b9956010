-- What each function promises of the buffer before and after, of the table of units and of the luma words.
use Rattle.std.specs.Prelude.{ℕ, ◌^◌, ◌<◌, ◌≡◌, List, map, Bool, length, get_or}
use Rattle.rules.specs.declared.Header.{Header}
use Rattle.rules.specs.declared.UnitRow.{UnitRow}
use Rattle.rules.specs.declared.SceneRow.{SceneRow}
use Rattle.rules.specs.Bytes.{end_to_end}
use Rattle.rules.specs.Scenes.{scenes_of}
use Rattle.rules.specs.Record.{scene_offset, unit_bytes, scene_bytes, record_bytes}
use Rattle.rules.specs.Seal.{over}
use Rattle.words.specs.Written.{written}
use Rattle.capture_cells.specs.declared.Cell.{Cell}
use Rattle.capture_units.specs.declared.Units.{Units}
use Rattle.capture_units.specs.Units.{units_of}
use Rattle.capture_units.specs.State.{Stands}
use Rattle.capture_units.specs.Contract.{Row}
use Rattle.luma_scenes.specs.Words.{Holds}

-- rows of n units were written from byte 64 on: of each unit the row that the table gives
pub record UnitsWritten (table : List ℕ) (n : ℕ) (before after : List ℕ) : Type 0 where
  pub rows : List UnitRow
  pub many : length rows ≡ n
  pub each : (j : ℕ) → j < n → (d : UnitRow) → Row table j (get_or rows j d)
  pub bytes : after ≡ written 64 (end_to_end (map unit_bytes rows)) before

-- the row is the rule's scene j, if the words hold so many pictures, d is the display time, and there is such a scene
abbrev pub IsScene : List ℕ → ℕ → ℕ → ℕ → SceneRow → Type 0
IsScene luma pictures d j row =
    (ss : List ℕ) (rs : List Bool) (qs : List ℕ) (z : SceneRow) → Holds luma pictures ss rs qs → d < 2 ^ 32 →
    j < length (scenes_of d ss rs qs) → row ≡ get_or (scenes_of d ss rs qs) j z

-- n rows of scenes were written behind those of the units
pub record ScenesWritten (luma : List ℕ) (pictures d units n : ℕ) (before after : List ℕ) : Type 0 where
  pub rows : List SceneRow
  pub many : length rows ≡ n
  pub each : (j : ℕ) → j < n → (z : SceneRow) → IsScene luma pictures d j (get_or rows j z)
  pub bytes : after ≡ written (scene_offset units) (end_to_end (map scene_bytes rows)) before

-- the record was written: with the units and scenes that the words stand for, if they are as many as the header says
abbrev pub RecordWritten : List ℕ → List ℕ → Header → List ℕ → List ℕ → Type 0
RecordWritten table luma h before after =
    (s : Units) (cs : List Cell) (ss : List ℕ) (rs : List Bool) (qs : List ℕ) → Stands table s cs →
    length cs < 2 ^ 24 →
    Holds luma h.pictures ss rs qs → h.time < 2 ^ 32 → h.units ≡ length (units_of cs) →
    h.scenes ≡ length (scenes_of h.time ss rs qs) →
    after ≡ over (record_bytes h (units_of cs) (scenes_of h.time ss rs qs)) before
