-- Luma side: pictures and their reduced pixels, and refusal 10.
use Rattle.std.specs.Prelude.{ℕ, ◌*◌, ◌/◌, List, map, length, take, drop, ltb}
use Rattle.rules.specs.declared.Opening.{Opening}
use Rattle.rules.specs.Bytes.{pick, smaller, total, table, parts, end_to_end}
use Rattle.rules.specs.Refusals.{Fault, none, fault}
use Rattle.rules.specs.Opening.{opening_fault, side, area, columns, lines}

-- a picture's W × H bytes
unfoldable pub picture_size : Opening → ℕ
picture_size o = o.width * o.height

-- after a refused opening no picture is whole
abbrev pub if_opened : Fault → ℕ → ℕ
if_opened none n = n
if_opened (fault k p) n = 0

-- N: how many pictures are whole, 750 at most
unfoldable pub picture_count : Opening → List ℕ → ℕ
picture_count o luma = if_opened (opening_fault o) (smaller 750 (length luma / picture_size o))

-- the whole pictures: picture i is the W × H bytes from i × W × H on
unfoldable pub pictures : Opening → List ℕ → List (List ℕ)
pictures o luma = parts (picture_count o luma) (picture_size o) luma

-- 10: a byte past 750 pictures
unfoldable pub luma_fault : Opening → List ℕ → Fault
luma_fault o luma = pick (ltb (750 * picture_size o) (length luma)) (fault 10 (750 * picture_size o)) none

-- ---- reduced pixels

-- a picture's rows of W bytes
unfoldable pub rows : Opening → List ℕ → List (List ℕ)
rows o picture = parts o.height o.width picture

-- the 2^k rows that the blocks of row r lie in
unfoldable pub band : Opening → List ℕ → ℕ → List (List ℕ)
band o picture r = take (side o) (drop (r * side o) (rows o picture))

-- the sum of the 2^k by 2^k block in column c of a band, and that sum divided once by 4^k: the reduced pixel
unfoldable pub block_sum : Opening → List (List ℕ) → ℕ → ℕ
block_sum o rs c = total (map (λ row. total (take (side o) (drop (c * side o) row))) rs)

unfoldable pub pixel_in : Opening → List (List ℕ) → ℕ → ℕ
pixel_in o rs c = block_sum o rs c / area o

-- the pixel in row r and column c
unfoldable pub pixel : Opening → List ℕ → ℕ → ℕ → ℕ
pixel o picture r c = pixel_in o (band o picture r) c

-- all w × h pixels, row by row: the one in row r and column c stands at r × w + c
unfoldable pub pixel_line : Opening → List (List ℕ) → List ℕ
pixel_line o rs = table (columns o) 0 (pixel_in o rs)

unfoldable pub pixels : Opening → List ℕ → List ℕ
pixels o picture = end_to_end (table (lines o) 0 (λ r. pixel_line o (band o picture r)))
