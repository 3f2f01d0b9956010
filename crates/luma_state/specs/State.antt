-- What the lent arrays of the luma side stand for. The luma words' scalars are `Progress` and the opening; the other
-- words hold what is known of the whole pictures. `sums` are the block sums of the current block row, `bins` a ring
-- of five pictures' histograms, `picture` the pixels: those of the block rows that are done are the current
-- picture's, the others the previous one's.
use Rattle.std.specs.Prelude.{ℕ, ◌+◌, ◌-◌, ◌*◌, ◌/◌, ◌%◌, ◌^◌, ◌≤◌, ◌<◌, ◌≡◌, List, [], ◌++◌, map, not, length}
use Rattle.std.specs.Prelude.{get_or, take}
use Rattle.rules.specs.declared.Opening.{Opening}
use Rattle.rules.specs.Bytes.{smaller, count, parts, Bytes}
use Rattle.rules.specs.Refusals.{none, fault, ◌or_else◌}
use Rattle.rules.specs.Editions.{rounds_to_nearest}
use Rattle.rules.specs.Opening.{opening_fault, side, columns, lines}
use Rattle.rules.specs.Pictures.{picture_size, luma_fault, pixels}
use Rattle.rules.specs.Histograms.{histograms}
use Rattle.rules.specs.Columns.{Boundary}
use Rattle.rules.specs.Cuts.{at, difference, cut_score}
use Rattle.rules.specs.Changes.{repeats, changes}
use Rattle.rules.specs.Seal.{reduced}
use Rattle.luma_laws.specs.Past.{previous, map_word}
use Rattle.luma_blocks.specs.Rows.{SumsOf}
use Rattle.luma_blocks.specs.Pixels.{RowsOf}
use Rattle.luma_tiles.specs.Bins.{Counts}
use Rattle.luma_changes.specs.declared.sums.Moves.{Moves}
use Rattle.luma_changes.specs.Figures.{Figures}
use Rattle.luma_state.specs.declared.Grid.{Grid}
use Rattle.luma_state.specs.declared.Progress.{Progress}
use Rattle.luma_state.specs.Layout.{word_count, kept_at, repeats_at, scores_at, changes_at}

-- ---- the scalars

-- words 0 to 11: the number of the refusal that stands (0: none) and its place; bytes fed; whole pictures, and those
-- of them that are not repeated; of the current picture the block rows that are done, the row in the current one, the
-- column, the bytes left of the surplus rows, and the sums of its pixels' rises, falls and squares
abbrev pub loaded : List ℕ → Progress
loaded w =
    record {
      status = get_or w 0 0;
      place = get_or w 1 0;
      fed = get_or w 2 0;
      pictures = get_or w 3 0;
      fresh = get_or w 4 0;
      line = get_or w 5 0;
      row = get_or w 6 0;
      col = get_or w 7 0;
      left = get_or w 8 0;
      ups = get_or w 9 0;
      downs = get_or w 10 0;
      squares = get_or w 11 0;
    }

-- the opening's values, words 12 to 16
abbrev pub opening_in : List ℕ → Opening
opening_in w =
    record {
      width = get_or w 12 0 % 2 ^ 32;
      height = get_or w 13 0 % 2 ^ 32;
      time = get_or w 14 0 % 2 ^ 32;
      pid = get_or w 15 0 % 2 ^ 32;
      edition = get_or w 16 0 % 2 ^ 32;
    }

-- the number of boundary k of w columns (`Fits` has that it is the boundary)
abbrev pub boundary_at : ℕ → ℕ → ℕ
boundary_at k w = (k * w + 2) / 3

-- W, 2^k, w, h, a picture's bytes, and the tiles' boundaries
abbrev pub grid_of : Opening → Grid
grid_of o =
    record {
      width = o.width;
      side = side o;
      columns = columns o;
      lines = lines o;
      bytes = picture_size o;
      second = boundary_at 1 (columns o);
      third = boundary_at 2 (columns o);
    }

-- how the pixels of the block rows that are done moved against the previous picture's
abbrev pub moves_in : Progress → Moves
moves_in s = record { up = s.ups; down = s.downs; squares = s.squares }

-- what a grid's numbers may be: those of every opening that is not refused are such
pub record Fits (g : Grid) : Type 0 where
  pub some : 0 < g.side
  pub few : g.side ≤ 32
  pub wide : 15 ≤ g.columns
  pub narrow : g.columns ≤ 239
  pub high : 30 ≤ g.lines
  pub low : g.lines ≤ 59
  pub least : 15 ≤ g.width
  pub most : g.width ≤ 1920
  pub room : g.lines * g.columns ≤ 14101
  pub rows : g.lines * g.side * g.width ≤ g.bytes
  pub small : g.bytes ≤ 2088960
  pub boundary : Boundary 1 g.columns g.second
  pub boundary_2 : Boundary 2 g.columns g.third

-- ---- whole pictures, with the pixels pxs

-- of all pictures' histograms, the smaller of the differences of the last but three and the last two
unfoldable pub kept_of : List (List (List ℕ)) → ℕ
kept_of hs =
    smaller (difference (at hs (length hs - 4)) (at hs (length hs - 2)))
    (difference (at hs (length hs - 4)) (at hs (length hs - 1)))

-- what the words hold: the opening, and of the pictures every cut score that is settled and every change, 0
-- elsewhere, the map of repeats, and from the fourth picture on what the next cut score needs of the earlier ones
pub record Words (o : Opening) (pxs : List (List ℕ)) (luma : List ℕ) : Type 0 where
  pub size : length luma ≡ word_count
  pub opening : opening_in luma ≡ o
  pub scores : (i : ℕ) → i < 750 → get_or luma (scores_at + i) 0 ≡ cut_score (map (histograms o) pxs) i
  pub changes : (i : ℕ) → i < 750 →
      get_or luma (changes_at + i) 0 ≡ get_or (changes (rounds_to_nearest o.edition) pxs) i 0
  pub repeats : (j : ℕ) → j < 12 → get_or luma (repeats_at + j) 0 ≡ map_word (repeats pxs) j
  pub kept : 4 ≤ length pxs → get_or luma kept_at 0 ≡ kept_of (map (histograms o) pxs)

-- the first place of picture i's histograms in the ring
abbrev pub slot : ℕ → ℕ
slot i = 144 * (i % 5)

-- the ring has the last four pictures' histograms
abbrev pub Ring : Grid → List (List ℕ) → List ℕ → Type 0
Ring g pxs bins =
    (j : ℕ) → j < length pxs → length pxs ≤ j + 4 → Counts g.columns g.lines (slot j) (get_or pxs j []) bins

-- ---- the current picture, of which the bytes cur are there

-- the pixels of the block rows that are done, their histograms, and how they moved against the previous picture; the
-- other pixels are the previous picture's
pub record Drawn (g : Grid) (s : Progress) (pxs : List (List ℕ)) (cur bins picture : List ℕ) : Type 0 where
  pub rows : RowsOf g.width g.side g.columns s.line cur picture
  pub rest : (q : ℕ) → s.line * g.columns ≤ q → q < g.lines * g.columns →
      get_or picture q 0 ≡ get_or (previous pxs) q 0
  pub counts : Counts g.columns g.lines (slot (length pxs)) (take (s.line * g.columns) picture) bins
  pub moves : Figures (previous pxs) (take (s.line * g.columns) picture) (moves_in s)

-- where it ends: in a block row, whose block sums these are, or in the surplus rows after the last block row, of
-- which `left` bytes are to come
pub data Place (g : Grid) (s : Progress) (cur sums : List ℕ) : Type 0 where
  drawing : s.line < g.lines → length cur ≡ (s.line * g.side + s.row) * g.width + s.col →
      SumsOf g.width g.side g.columns s.line cur sums → Place g s cur sums
  passing : s.line ≡ g.lines → length cur + s.left ≡ g.bytes → 0 < length cur →
      SumsOf g.width g.side g.columns 0 [] sums → Place g s cur sums

-- ---- both

-- no refusal stands: joined is the whole pictures and cur
pub record Live (g : Grid) (o : Opening) (s : Progress) (luma sums bins picture joined : List ℕ) : Type 0 where
  pub whole : List ℕ
  pub cur : List ℕ
  pub pxs : List (List ℕ)
  pub grid : g ≡ grid_of o
  pub split : joined ≡ whole ++ cur
  pub full : length whole ≡ length pxs * picture_size o
  pub reduced : pxs ≡ map (pixels o) (parts (length pxs) (picture_size o) whole)
  pub few : length pxs ≤ 750
  pub room : length pxs ≡ 750 → cur ≡ []
  pub bytes : Bytes joined
  pub status : s.status ≡ 0
  pub fed : s.fed ≡ length joined % 2 ^ 64
  pub pictures : s.pictures ≡ length pxs
  pub fresh : s.fresh ≡ count not (repeats pxs) % 2 ^ 64
  pub words : Words o pxs luma
  pub ring : Ring g pxs bins
  pub drawn : Drawn g s pxs cur bins picture
  pub place : Place g s cur sums

-- the place is inside the picture
pub record Sane (g : Grid) (s : Progress) : Type 0 where
  pub few : s.pictures ≤ 750
  pub line : s.line ≤ g.lines
  pub row : s.line < g.lines → s.row < g.side
  pub col : s.line < g.lines → s.col < g.width
  pub left : s.line ≡ g.lines → 0 < s.left

-- 750 pictures are there, and what the words and the scalars know of them stays: refusal 10 takes none of it away
pub record Full (o : Opening) (s : Progress) (luma joined : List ℕ) : Type 0 where
  pub there : 750 * picture_size o ≤ length joined
  pub pictures : s.pictures ≡ 750
  pub fresh : s.fresh ≡ count not (repeats (reduced o joined)) % 2 ^ 64
  pub words : Words o (reduced o joined) luma

-- The arrays stand for the opening o and the joined bytes: a refusal stands (the opening's or 10, with its place), or
-- none does
pub data Stands (o : Opening) (s : Progress) (luma sums bins picture joined : List ℕ) : Type 0 where
  refused : opening_fault o or_else luma_fault o joined ≡ fault s.status s.place → 0 < s.status →
      (opening_fault o ≡ none → Full o s luma joined) →
      Stands o s luma sums bins picture joined
  live : opening_fault o ≡ none → Sane (grid_of o) s → Live (grid_of o) o s luma sums bins picture joined →
      Stands o s luma sums bins picture joined

-- what the lent arrays stand for: the opening and the joined bytes
pub record Means (luma sums bins picture : List ℕ) (o : Opening) (joined : List ℕ) : Type 0 where
  pub size : length luma ≡ word_count
  pub opening : opening_in luma ≡ o
  pub stands : Stands o (loaded luma) luma sums bins picture joined

-- ---- on the way through a piece

-- the arrays, but for the scalars in the words, which are s
pub record Holding (o : Opening) (s : Progress) (luma sums bins picture joined : List ℕ) : Type 0 where
  pub size : length luma ≡ word_count
  pub opening : opening_in luma ≡ o
  pub stands : Stands o s luma sums bins picture joined

-- from one state of the arrays, by the bytes of chunk, to another, whatever the opening and the joined bytes
abbrev pub Goes : Grid → Progress → List ℕ → List ℕ → List ℕ → List ℕ → List ℕ → Progress → List ℕ → List ℕ → List ℕ →
    List ℕ → Type 0
Goes g s luma sums bins picture chunk r luma' sums' bins' picture' =
    (o : Opening) (joined : List ℕ) → Live g o s luma sums bins picture joined →
    Live g o r luma' sums' bins' picture' (joined ++ chunk)
