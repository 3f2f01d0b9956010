-- What the luma side adds up while bytes and pixels come: sums of blocks, counts of bins, sums of differences. Each
-- is a tally over the bytes or pixels so far.
use Rattle.std.specs.Prelude.{ℕ, ◌+◌, ◌-◌, ◌*◌, ◌/◌, ◌%◌, List, get_or, eqb}
use Rattle.rules.specs.Bytes.{pick, tally}
use Rattle.rules.specs.Counted.{hits}

-- ---- sums of blocks

-- what the byte b at place q gives to the block in row r and column c, with rows of W bytes and blocks of n by n
abbrev pub in_block : ℕ → ℕ → ℕ → ℕ → ℕ → ℕ → ℕ
in_block W n r c q b = pick (eqb (q / W / n) r) (pick (eqb (q % W / n) c) b 0) 0

-- the sum of that block, of a picture whose first bytes are p
abbrev pub block_tally : ℕ → ℕ → ℕ → ℕ → List ℕ → ℕ
block_tally W n r c p = tally (in_block W n r c) 0 p

-- ---- counts of bins

-- how many of a picture's first pixels p are in bin b of tile t
abbrev pub bin_tally : ℕ → ℕ → ℕ → ℕ → List ℕ → ℕ
bin_tally w h t b p = tally (hits w h t b) 0 p

-- ---- from one picture to the next

-- of the pixel v at place i of the new picture
abbrev pub rise : List ℕ → ℕ → ℕ → ℕ
rise old i v = v - get_or old i 0

abbrev pub fall : List ℕ → ℕ → ℕ → ℕ
fall old i v = get_or old i 0 - v

-- e²
abbrev pub square : List ℕ → ℕ → ℕ → ℕ
square old i v = (rise old i v + fall old i v) * (rise old i v + fall old i v)

-- over the new picture's first pixels: the sum of e is `ups - downs`, and the sum of e² is `squared`
abbrev pub ups : List ℕ → List ℕ → ℕ
ups old new = tally (rise old) 0 new

abbrev pub downs : List ℕ → List ℕ → ℕ
downs old new = tally (fall old) 0 new

abbrev pub squared : List ℕ → List ℕ → ℕ
squared old new = tally (square old) 0 new
