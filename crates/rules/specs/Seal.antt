-- Sealing: the record of what was fed, refusals 11 to 15, and the answers of feeds and seals.
use Rattle.std.specs.Prelude.{ℕ, ◌%◌, List, [], ◌∷◌, ◌++◌, map, not, length, drop, ltb, eqb, Ok, Err}
use Rattle.rules.specs.declared.Opening.{Opening}
use Rattle.rules.specs.Refusals.{Answer, Fault, none, fault, ◌or_else◌, answer}
use Rattle.rules.specs.declared.Header.{Header}
use Rattle.rules.specs.declared.UnitRow.{UnitRow}
use Rattle.rules.specs.declared.SceneRow.{SceneRow}
use Rattle.rules.specs.declared.Index.{Index}
use Rattle.rules.specs.Bytes.{pick, total, count}
use Rattle.rules.specs.Editions.{rounds_to_nearest}
use Rattle.rules.specs.Opening.{opening_fault}
use Rattle.rules.specs.Capture.{units, frame_count, skipped_count, bad_count, capture_fault, capture_inside}
use Rattle.rules.specs.Pictures.{picture_size, picture_count, pictures, luma_fault, pixels}
use Rattle.rules.specs.Histograms.{histograms}
use Rattle.rules.specs.Cuts.{cut_scores}
use Rattle.rules.specs.Changes.{repeats, changes}
use Rattle.rules.specs.Scenes.{scenes_of}
use Rattle.rules.specs.Index.{index_of, index_bits}
use Rattle.rules.specs.Record.{record_bytes, record_length}

-- ---- what was fed, as figures

-- the reduced pixels of every whole picture
unfoldable pub reduced : Opening → List ℕ → List (List ℕ)
reduced o luma = map (pixels o) (pictures o luma)

-- the scenes of pictures with these reduced pixels
unfoldable pub scenes_in : Opening → List (List ℕ) → List SceneRow
scenes_in o pxs =
    scenes_of o.time (cut_scores (map (histograms o) pxs)) (repeats pxs) (changes (rounds_to_nearest o.edition) pxs)

unfoldable pub scenes : Opening → List ℕ → List SceneRow
scenes o luma = scenes_in o (reduced o luma)

-- pictures that are not repeated
unfoldable pub unrepeated : Opening → List ℕ → ℕ
unrepeated o luma = count not (repeats (reduced o luma))

-- the index, from the counts over all units and pictures
unfoldable pub index_from : List UnitRow → ℕ → ℕ → Index
index_from us unrepeated n = index_of unrepeated n (total (map (λ u. u.packets) us)) (total (map (λ u. u.lost) us))

unfoldable pub index : Opening → List ℕ → List ℕ → Index
index o capture luma = index_from (units o capture) (unrepeated o luma) (picture_count o luma)

-- the header's figures
unfoldable pub header : Opening → List ℕ → List ℕ → Header
header o capture luma =
    record {
      edition = o.edition;
      units = length (units o capture);
      scenes = length (scenes o luma);
      width = o.width;
      height = o.height;
      time = o.time;
      pid = o.pid;
      pictures = picture_count o luma;
      frames = frame_count capture;
      skipped = skipped_count capture;
      bad = bad_count o capture;
      index = index_bits (index o capture luma);
    }

-- the record
unfoldable pub sealed : Opening → List ℕ → List ℕ → List ℕ
sealed o capture luma = record_bytes (header o capture luma) (units o capture) (scenes o luma)

unfoldable pub sealed_length : Opening → List ℕ → List ℕ → ℕ
sealed_length o capture luma = record_length (length (units o capture)) (length (scenes o luma))

-- ---- refusals

-- 11: the capture ends inside its header or a frame
unfoldable pub capture_unfinished : List ℕ → Fault
capture_unfinished capture = pick (capture_inside capture) (fault 11 (length capture)) none

-- 12: no unit, so no packet of PID, or by edition 4 only damaged ones
unfoldable pub no_packet : List UnitRow → Fault
no_packet [] = fault 12 0
no_packet (u ∷ us) = none

-- 13: the luma ends inside a picture
unfoldable pub luma_unfinished : Opening → List ℕ → Fault
luma_unfinished o luma = pick (eqb (length luma % picture_size o) 0) none (fault 13 (length luma))

-- 14: no picture
unfoldable pub no_picture : ℕ → Fault
no_picture n = pick (eqb n 0) (fault 14 0) none

-- 15: the buffer is shorter than the record
unfoldable pub no_room : ℕ → ℕ → Fault
no_room buffer needed = pick (ltb buffer needed) (fault 15 needed) none

-- of a seal into a buffer of so many bytes: the opening's, then 4 to 9, then 10 to 15
unfoldable pub seal_fault : Opening → List ℕ → List ℕ → ℕ → Fault
seal_fault o capture luma buffer =
    opening_fault o
    or_else capture_fault o capture
    or_else luma_fault o luma
    or_else capture_unfinished capture
    or_else no_packet (units o capture)
    or_else luma_unfinished o luma
    or_else no_picture (picture_count o luma)
    or_else no_room buffer (sealed_length o capture luma)

-- ---- answers

-- of a feed of n bytes, after which its side's joined bytes are these
unfoldable pub capture_answer : Opening → List ℕ → ℕ → Answer ℕ
capture_answer o capture n = answer (opening_fault o or_else capture_fault o capture) n

unfoldable pub luma_answer : Opening → List ℕ → ℕ → Answer ℕ
luma_answer o luma n = answer (opening_fault o or_else luma_fault o luma) n

-- of a seal into a buffer of n bytes
unfoldable pub seal_answer : Opening → List ℕ → List ℕ → ℕ → Answer ℕ
seal_answer o capture luma n = answer (seal_fault o capture luma n) (sealed_length o capture luma)

-- the record over the first bytes of a buffer
unfoldable pub over : List ℕ → List ℕ → List ℕ
over r buffer = r ++ drop (length r) buffer

abbrev pub if_done : {A X : Type 0} → Answer A → X → X → X
if_done (Ok n) new old = new
if_done (Err e) new old = old

-- the buffer after a seal: the record and behind it the bytes as they were; after a refusal all bytes as they were
unfoldable pub sealed_buffer : Opening → List ℕ → List ℕ → List ℕ → List ℕ
sealed_buffer o capture luma buffer =
    let new = over (sealed o capture luma) buffer in
    if_done (seal_answer o capture luma (length buffer)) new buffer
