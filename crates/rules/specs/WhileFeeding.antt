-- Index while feeding (document 02, R-7): the index of all whole pictures and all whole cells fed so far, and its
-- refusals.
use Rattle.std.specs.Prelude.{ℕ, List}
use Rattle.rules.specs.declared.Opening.{Opening}
use Rattle.rules.specs.declared.Index.{Index}
use Rattle.rules.specs.Refusals.{Fault, ◌or_else◌, Answer, answer}
use Rattle.rules.specs.Opening.{opening_fault}
use Rattle.rules.specs.Capture.{units, capture_fault}
use Rattle.rules.specs.Pictures.{picture_count, luma_fault}
use Rattle.rules.specs.Seal.{index, no_packet, no_picture}

-- the opening's number, 4 to 9, 10, 12 (no whole cell counted in a unit) and 14, in that order. Where a seal gives 11
-- or 13, an unfinished record or picture, an index call goes on
unfoldable pub index_fault : Opening → List ℕ → List ℕ → Fault
index_fault o capture luma =
    opening_fault o
    or_else capture_fault o capture
    or_else luma_fault o luma
    or_else no_packet (units o capture)
    or_else no_picture (picture_count o luma)

-- what an index call answers: the index worked out afresh (`Seal.index`), from every unit of the joined capture and
-- every whole picture. Units are made of all whole cells, those of a record that is not whole yet among them
-- (`Capture.whole_wanted`)
unfoldable pub index_answer : Opening → List ℕ → List ℕ → Answer Index
index_answer o capture luma = answer (index_fault o capture luma) (index o capture luma)
