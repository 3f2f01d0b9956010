-- Document 01, "Program `show`": its example's three lines and a refused one, computed.
use mathlib.Core.Path.{◌≡◌, refl}
use mathlib.Core.List.{[], ◌∷◌}
use Rattle.rules.specs.Bytes.{end_to_end}
use Rattle.rules.specs.Digits.{decimal_in, decimal, hex_in}
use Rattle.record_text.specs.Lines.{field, fields, sample_line, unit_line, scene_line, refused_line}

-- sample 30 30 40000 256 2 1 0 0 4008000000000000
pub sample-worked : sample_line (record {
  edition = 1;
  units = 1;
  scenes = 1;
  width = 30;
  height = 30;
  time = 40000;
  pid = 256;
  pictures = 2;
  frames = 1;
  skipped = 0;
  bad = 0;
  index = 0x4008000000000000;
}) ≡
    115 ∷ 97 ∷ 109 ∷ 112 ∷ 108 ∷ 101 ∷ 32 ∷ 51 ∷ 48 ∷ 32 ∷ 51 ∷ 48 ∷ 32 ∷ 52 ∷ 48 ∷ 48 ∷ 48 ∷ 48 ∷ 32 ∷ 50 ∷ 53 ∷ 54
    ∷ 32 ∷ 50 ∷ 32 ∷ 49 ∷ 32 ∷ 48 ∷ 32 ∷ 48 ∷ 32 ∷ 52 ∷ 48 ∷ 48 ∷ 56 ∷ 48 ∷ 48 ∷ 48 ∷ 48 ∷ 48 ∷ 48 ∷ 48 ∷ 48 ∷ 48 ∷ 48
    ∷ 48 ∷ 48 ∷ 10 ∷ []
unfolding sample_line decimal_in decimal hex_in field fields end_to_end
sample-worked = refl

-- unit 0 10000005 10000005 184 1 0
pub unit-worked : unit_line 0
    (record { least = 10000005; greatest = 10000005; size = 184; packets = 1; lost = 0; damaged = 0 }) ≡
    117 ∷ 110 ∷ 105 ∷ 116 ∷ 32 ∷ 48 ∷ 32 ∷ 49 ∷ 48 ∷ 48 ∷ 48 ∷ 48 ∷ 48 ∷ 48 ∷ 53 ∷ 32 ∷ 49 ∷ 48 ∷ 48 ∷ 48 ∷ 48 ∷ 48
    ∷ 48 ∷ 53 ∷ 32 ∷ 49 ∷ 56 ∷ 52 ∷ 32 ∷ 49 ∷ 32 ∷ 48 ∷ 10 ∷ []
unfolding unit_line decimal_in decimal field fields end_to_end
unit-worked = refl

-- scene 0 0 2 1 1 0 0 0
pub scene-worked : scene_line 0
    (record { first = 0; pictures = 2; repeated = 1; longest = 1; score = 0; peak = 0; change = 0 }) ≡
    115 ∷ 99 ∷ 101 ∷ 110 ∷ 101 ∷ 32 ∷ 48 ∷ 32 ∷ 48 ∷ 32 ∷ 50 ∷ 32 ∷ 49 ∷ 32 ∷ 49 ∷ 32 ∷ 48 ∷ 32 ∷ 48 ∷ 32
    ∷ 48 ∷ 10 ∷ []
unfolding scene_line decimal_in decimal field fields end_to_end
scene-worked = refl

-- refused 18
pub refused-worked : refused_line 18 ≡
    114 ∷ 101 ∷ 102 ∷ 117 ∷ 115 ∷ 101 ∷ 100 ∷ 32 ∷ 49 ∷ 56 ∷ 10 ∷ []
unfolding refused_line decimal_in decimal field
refused-worked = refl
