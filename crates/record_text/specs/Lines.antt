-- Document 01, program `show`: the text of its lines, as ASCII codes.
use Rattle.std.specs.Prelude.{ℕ, List, [], ◌∷◌, ◌++◌, map}
use Rattle.rules.specs.declared.Header.{Header}
use Rattle.rules.specs.declared.UnitRow.{UnitRow}
use Rattle.rules.specs.declared.SceneRow.{SceneRow}
use Rattle.rules.specs.Bytes.{end_to_end}
use Rattle.rules.specs.Digits.{decimal, hex_in}

-- a space and a number
unfoldable pub field : ℕ → List ℕ
field n = 32 ∷ decimal n

unfoldable pub fields : List ℕ → List ℕ
fields ns = end_to_end (map field ns)

-- a word, numbers with a space before each, and an end
unfoldable pub line_of : List ℕ → List ℕ → List ℕ → List ℕ
line_of word numbers end = word ++ fields numbers ++ end

-- line 1: `sample`, words 24 to 52, the index bits in 16 hexadecimal digits, a line feed
unfoldable pub sample_line : Header → List ℕ
sample_line h =
    (115 ∷ 97 ∷ 109 ∷ 112 ∷ 108 ∷ 101 ∷ [])
    ++ fields (h.width ∷ h.height ∷ h.time ∷ h.pid ∷ h.pictures ∷ h.frames ∷ h.skipped ∷ h.bad ∷ [])
    ++ (32 ∷ hex_in 16 h.index)
    ++ (10 ∷ [])

-- `unit`, the row's number and its fields
unfoldable pub unit_line : ℕ → UnitRow → List ℕ
unit_line j u = (117 ∷ 110 ∷ 105 ∷ 116 ∷ [])
    ++ fields (j ∷ u.least ∷ u.greatest ∷ u.size ∷ u.packets ∷ u.lost ∷ []) ++ (10 ∷ [])

-- `scene`, the row's number and its fields
unfoldable pub scene_line : ℕ → SceneRow → List ℕ
scene_line j s =
    (115 ∷ 99 ∷ 101 ∷ 110 ∷ 101 ∷ [])
    ++ fields (j ∷ s.first ∷ s.pictures ∷ s.repeated ∷ s.longest ∷ s.score ∷ s.peak ∷ s.change ∷ [])
    ++ (10 ∷ [])

-- `refused` and the number
unfoldable pub refused_line : ℕ → List ℕ
refused_line n = (114 ∷ 101 ∷ 102 ∷ 117 ∷ 115 ∷ 101 ∷ 100 ∷ []) ++ field n ++ (10 ∷ [])
