-- What every record that a seal leaves has, after every list of calls, under every edition, though no reader asks for
-- it: the marks of `record_verify`, one by one, and that `verify` finds them all. The subject is the record's bytes r.
use Rattle.std.specs.Prelude.{ℕ, ◌+◌, ◌-◌, ◌*◌, ◌≤◌, ◌<◌, ◌≡◌, false, List, Ok}
use Rattle.rules.specs.declared.Opening.{Opening}
use Rattle.rules.specs.declared.UnitRow.{UnitRow}
use Rattle.rules.specs.declared.SceneRow.{SceneRow}
use Rattle.rules.specs.Bytes.{word32, word64}
use Rattle.rules.specs.Editions.{knows_damage}
use Rattle.rules.specs.Index.{index_bits}
use Rattle.rules.specs.Reading.{unit_at, scene_at}
use Rattle.rules.specs.Busiest.{most_scenes}
use Rattle.record_verify.specs.declared.Verdict.TheVariants.{CouldBeSealed}
use Rattle.record_verify.specs.Totals.{index_of_rows, reached_of}
use Rattle.record_verify.specs.Marks.{in_first, counted_in, changing, verdict_of}
use Rattle.reader_facts.specs.Facts.{SealedBy}

-- ---- the rows, each fact with its mark

-- unit row j
pub record SoundUnit (j : ℕ) (u : UnitRow) : Type 0 where
  -- 4: a packet has at most 14 lost before it, the first of all none
  pub lost : u.lost ≤ 14 * (u.packets - in_first j)
  -- 5: a time is below 2^32 seconds
  pub time : u.greatest ≤ 4294967295999999

-- scene row j
pub record SoundScene (j : ℕ) (s : SceneRow) : Type 0 where
  -- 6: the first picture is not repeated
  pub start : s.repeated < s.pictures
  -- 7: the longest run is among the repeated pictures
  pub run : s.longest ≤ s.repeated
  -- 8: each run follows a picture that is not repeated
  pub runs : s.repeated ≤ s.longest * (s.pictures - s.repeated)
  -- 9: the greatest s is among those that are summed
  pub among : s.peak ≤ s.score
  -- 10: s is at most 1,000,000
  pub highest : s.peak ≤ 1000000
  -- 11: no s is above the greatest; s of a repeated picture and of picture 0 is 0
  pub score : s.score ≤ s.peak * changing j s
  -- 12: q is at most 25,500; q of a repeated picture and of picture 0 is 0
  pub change : s.change ≤ 25500 * changing j s

-- a scene row that is not the first, of n pictures
pub record LaterScene (n : ℕ) (s : SceneRow) : Type 0 where
  -- 13: it starts at a cut
  pub cut : 1000 < s.peak
  -- 14: two pictures or more follow its first
  pub inside : s.first + 2 < n

-- THE STATEMENTS

-- 16: the 64 bits in the header are those of the index that the record's rows reach
abbrev pub EverySealReached : Type 0
EverySealReached =
    (o : Opening) (capture luma r : List ℕ) → SealedBy o capture luma r → word64 r 56 ≡ index_bits (index_of_rows r)

-- 1: the frames (word 44), those that carry (all but word 48) and the packets counted fit into 268,435,456 bytes
abbrev pub EverySealCaptureFits : Type 0
EverySealCaptureFits =
    (o : Opening) (capture luma r : List ℕ) → SealedBy o capture luma r →
    24 + 16 * word32 r 44 + 42 * (word32 r 44 - word32 r 48) + 188 * counted_in r ≤ 268435456

-- 2: a frame that carries has at most 348 packets
abbrev pub EverySealPacketsFit : Type 0
EverySealPacketsFit =
    (o : Opening) (capture luma r : List ℕ) → SealedBy o capture luma r →
    counted_in r ≤ 348 * (word32 r 44 - word32 r 48)

-- 3: word 16, the scenes, is at most the greatest number that N pictures shown for d can have (document 02, R-9)
abbrev pub EverySealFewScenes : Type 0
EverySealFewScenes =
    (o : Opening) (capture luma r : List ℕ) → SealedBy o capture luma r →
    word32 r 16 ≤ most_scenes (word32 r 32) (word32 r 40)

-- 4 and 5, of every unit row
abbrev pub EverySealSoundUnits : Type 0
EverySealSoundUnits =
    (o : Opening) (capture luma r : List ℕ) → SealedBy o capture luma r →
    (j : ℕ) → j < word32 r 8 → SoundUnit j (unit_at r j)

-- word 28 of a unit row is 0 before edition 4. No mark asks this: the reader refuses any other (18)
abbrev pub EverySealUndamaged : Type 0
EverySealUndamaged =
    (o : Opening) (capture luma r : List ℕ) → SealedBy o capture luma r → knows_damage (word32 r 0) ≡ false →
    (j : ℕ) → j < word32 r 8 → (unit_at r j).damaged ≡ 0

-- 6 to 12, of every scene row
abbrev pub EverySealSoundScenes : Type 0
EverySealSoundScenes =
    (o : Opening) (capture luma r : List ℕ) → SealedBy o capture luma r →
    (j : ℕ) → j < word32 r 16 → SoundScene j (scene_at r j)

-- 13 and 14, of every scene row but the first
abbrev pub EverySealLaterScenes : Type 0
EverySealLaterScenes =
    (o : Opening) (capture luma r : List ℕ) → SealedBy o capture luma r →
    (j : ℕ) → 1 ≤ j → j < word32 r 16 → LaterScene (word32 r 40) (scene_at r j)

-- 15: every scene but the last lasts 600,000 microseconds or more; d is word 32
abbrev pub EverySealLongScenes : Type 0
EverySealLongScenes =
    (o : Opening) (capture luma r : List ℕ) → SealedBy o capture luma r →
    (j : ℕ) → j + 1 < word32 r 16 → 600000 ≤ (scene_at r j).pictures * word32 r 32

-- so `verify` says of every sealed record that it could have been sealed, with what its rows reach
abbrev pub EverySealCouldBe : Type 0
EverySealCouldBe =
    (o : Opening) (capture luma r : List ℕ) → SealedBy o capture luma r →
    verdict_of r ≡ Ok (CouldBeSealed (reached_of r))
