-- The figures of a sample that can be sealed: how large each can be. Each fits its word of the record.
use Prim.Native.Nat.{ℕ, zero, suc, ◌+◌, ◌-◌, ◌*◌, ◌^◌, ◌≤◌, ◌<◌}
use native.Mathlib.Omega.{arith}
use native.Mathlib.Nat.{mul-suc}
use native.Mathlib.Decide.{dec_le}
use mathlib.Core.Path.{◌≡◌, refl, sym, ◌∙◌}
use mathlib.Core.List.{List, [], ◌∷◌, ◌++◌, map, append-nil}
use mathlib.Core.Bool.{Bool, true, false, not, ◌||◌, false≢true}
use lib.ListN.{length, take, drop, length-append, length-take}
use lib.Dec.{ltb}
use lib.Ieee.{binary64}
use lib.Ieee.Bits.{to_bits-lt}
use lib.Ieee.Fits.{add-fits}
use borrow.Author.Tests.{ltb-false}
use Rattle.rules.specs.declared.Opening.{Opening}
use Rattle.rules.specs.declared.UnitRow.{UnitRow}
use Rattle.rules.specs.declared.SceneRow.{SceneRow}
use Rattle.rules.specs.Bytes.{pick, byte, total, greatest_of, least_of, end_to_end, All, and, Bytes, empty}
use Rattle.rules.specs.Refusals.{Fault, none, fault, ◌or_else◌}
use Rattle.rules.specs.Editions.{is_edition, heeds_splices, knows_damage}
use Rattle.rules.specs.Opening.{opening_fault}
use Rattle.rules.specs.Frames.{seconds, microseconds, stored_length, frame_time, frame_size, frames, behind_header}
use Rattle.rules.specs.Packets.{Packet, packets_from, packets_of, packets, is_wanted, wanted_of}
use Rattle.rules.specs.Units.{Arrival, set_apart, arrivals_after, arrivals, before_units, into_first, groups}
use Rattle.rules.specs.Units.{cells_of}
use Rattle.rules.specs.Units.{least_time, unit_of, units_of}
use Rattle.rules.specs.Capture.{whole_frames, unfinished, all_frames, whole_wanted, units, showing}
use Rattle.rules.specs.Capture.{wrong_frame_header}
use Rattle.rules.specs.Capture.{wrong_frame, capture_fault, capture_inside}
use Rattle.rules.specs.Pictures.{picture_count, luma_fault}
use Rattle.rules.specs.Scenes.{span, is_true, starts, scene_of, scenes_at, scenes_of}
use Rattle.rules.specs.Histograms.{histograms}
use Rattle.rules.specs.Cuts.{cut_scores}
use Rattle.rules.specs.Editions.{rounds_to_nearest}
use Rattle.rules.specs.Changes.{repeats, changes}
use Rattle.rules.specs.Index.{float, value_of, index_of, index_bits}
use Rattle.rules.specs.Record.{record_length}
use Rattle.rules.specs.Seal.{reduced, scenes_in, scenes, index_from, index, header, capture_unfinished, no_packet}
use Rattle.rules.specs.Seal.{luma_unfinished, no_picture, seal_fault}
use Rattle.luma_laws.proofs.Pictures.{bytes_take, bytes_drop}
use Rattle.record_laws.proofs.Words.{word32-fits}
use Rattle.capture_laws.proofs.Frames.{size-least, by_frames, frames-none, frames-one}
use Rattle.capture_laws.proofs.Onward.{base, base_sum, Whole, frames-whole, of_none, of-from, layout}
use Rattle.capture_laws.proofs.Flow.{reached, wanted-of, nine-of, few-begin}
use Rattle.rules.proofs.Laws.Lists.{by-pick, all_drop, count-few, inside, smaller-min, larger-max, only-all}
use Rattle.rules.proofs.Laws.Lists.{all_append}
use Rattle.capture_laws.proofs.Format.{none_both, clear_of, long_of, shows}
use Rattle.capture_laws.proofs.Bounds.{frame-count-few, skipped-few, bad-few, wanted-few}
use Rattle.luma_laws.proofs.Sizes.{good}
use Rattle.luma_laws.proofs.Ranges.{AtMost, sample-scored, sample-changed}
use Rattle.capture_laws.proofs.UnitsMore.{units-beginnings, packets-total, lost-small, all_packets, all_lost}
use Rattle.capture_laws.proofs.UnitsMore.{all_damaged}
use Rattle.capture_laws.proofs.Damage.{cells-groups, zero-units}
use Rattle.record_laws.proofs.Record.{Each, UnitFits, SceneFits, Figures}
use Rattle.luma_laws.proofs.Spans.{longest-most, peak-most}
use Rattle.luma_laws.proofs.Scenes.{Apart, last, next, starts_apart, below_length, starts_first, sample-scores}
use Rattle.luma_laws.proofs.Scenes.{pictures-most}
use Rattle.luma_laws.proofs.Most.{sample-few}

-- ---- what a seal that is not refused tells

pub record Sealable (o : Opening) (capture luma : List ℕ) : Type 0 where
  pub opened : opening_fault o ≡ none
  pub clear : capture_fault o capture ≡ none
  pub inside : capture_inside capture ≡ false
  pub unit : 1 ≤ length (units o capture)
  pub picture : 1 ≤ picture_count o luma

not_none : {k p : ℕ} → fault k p ≡ none → ⊥
not_none e = let z : ◌≡◌ {A = ℕ} 0 1 = cc in omega arith

else-none : (f g : Fault) → f or_else g ≡ none → (f ≡ none) × (g ≡ none)
else-none none g e = (refl, e)
else-none (fault k p) g e = absurd (not_none e)

some-unit : (us : List UnitRow) → no_packet us ≡ none → 1 ≤ length us
unfolding no_packet
some-unit [] e = absurd (not_none e)
some-unit (u ∷ us) e = omega arith

some-picture : (n : ℕ) → no_picture n ≡ none → 1 ≤ n
unfolding no_picture
some-picture zero e = absurd (not_none e)
some-picture (suc n) e = omega arith

not-inside : (capture : List ℕ) → capture_unfinished capture ≡ none → capture_inside capture ≡ false
unfolding capture_unfinished
not-inside capture = go (capture_inside capture)
  where
    go : (b : Bool) → pick b (fault 11 (length capture)) none ≡ none → b ≡ false
    go true e = absurd (not_none e)
    go false e = refl

pub sealable : (o : Opening) (capture luma : List ℕ) (n : ℕ) → seal_fault o capture luma n ≡ none →
    Sealable o capture luma
unfolding seal_fault
sealable o capture luma n e =
    let a = else-none (opening_fault o) _ e in
    let b = else-none (capture_fault o capture) _ a.1 in
    let c = else-none (luma_fault o luma) _ b.1 in
    let d = else-none (capture_unfinished capture) _ c.1 in
    let f = else-none (no_packet (units o capture)) _ d.1 in
    let g = else-none (luma_unfinished o luma) _ f.1 in
    let h = else-none (no_picture (picture_count o luma)) _ g.1 in
    record {
      opened = a.0;
      clear = b.0;
      inside = not-inside capture d.0;
      unit = some-unit (units o capture) f.0;
      picture = some-picture (picture_count o luma) h.0;
    }

-- ---- units are 750 at most: between frames every packet that shows what it is is whole

neither : (a b : Bool) → a || b ≡ false → (a ≡ false) × (b ≡ false)
neither true b e = absurd (false≢true (sym e))
neither false b e = (refl, e)

no-elements : {A : Type 0} (xs : List A) → length xs ≡ 0 → xs ≡ []
no-elements [] e = refl
no-elements (x ∷ xs) e = absurd (omega arith)

-- neither inside the header nor inside a frame
header-there : (capture : List ℕ) → capture_inside capture ≡ false → 24 ≤ length capture
unfolding capture_inside
header-there capture e =
    ltb-false (length capture) 24 (neither (ltb (length capture) 24) (ltb 0 (length (unfinished capture))) e).0

pub between : (capture : List ℕ) → capture_inside capture ≡ false → unfinished capture ≡ []
unfolding capture_inside
between capture e =
    let h = ltb-false 0 (length (unfinished capture))
    (neither (ltb (length capture) 24) (ltb 0 (length (unfinished capture))) e).1 in
    no-elements (unfinished capture) (omega arith)

pub all-reached : (d : ℕ) → 0 < d → d ≤ 188 → (s : List ℕ) → unfinished s ≡ [] →
    reached d s ≡ packets 24 (whole_frames s)
all-reached d some small s e =
    layout d some small s
    ∙ rw (e, of_none d some small (base s) [] (omega arith)) (append-nil (packets 24 (whole_frames s)))

pub wanted-between : (o : Opening) (s : List ℕ) → unfinished s ≡ [] →
    whole_wanted o s ≡ wanted_of o (packets 24 (whole_frames s))
wanted-between o s e = wanted-of o s ∙ rw (all-reached 188 (omega arith) (omega arith) s e)

pub units-most : (o : Opening) (capture luma : List ℕ) → Sealable o capture luma → length (units o capture) ≤ 750
unfolding units
units-most o capture luma h =
    let e = between capture h.inside in
    let n = sym (nine-of o capture) ∙ (clear_of o capture h.clear).units in
    let f =
    few-begin o (packets 24 (whole_frames capture)) (rw (all-reached 4 (omega arith) (omega arith) capture e) at n) in
    rw (units-beginnings o.edition (whole_wanted o capture), wanted-between o capture e) f

-- ---- times: seconds below 2^32 and microseconds up to 999,999

abbrev pub last_time : ℕ
last_time = 4294967295 * 1000000 + 999999

byte_small : (s : List ℕ) → Bytes s → (i : ℕ) → byte s i < 256
byte_small [] h i = omega arith
byte_small (b ∷ s) (and h hs) zero = h
byte_small (b ∷ s) (and h hs) (suc i) = byte_small s hs i

frame-time : (f : List ℕ) → Bytes f → microseconds f ≤ 999999 → frame_time f ≤ last_time
unfolding frame_time seconds
frame-time f h g = let a = word32-fits f 0 (byte_small f h) in omega arith

frames-bytes : (s : List ℕ) → Bytes s → All Bytes (frames s)
frames-bytes =
    by_frames (λ (x : List ℕ). Bytes x → All Bytes (frames x))
    (λ x h b. rw (frames-none x h) empty)
    (λ x h ih b. rw (frames-one x h) (and (bytes_take (frame_size x) x b) (ih (bytes_drop (frame_size x) x b))))

-- a whole frame with no refusal 7
header-micro : (n place : ℕ) (f : List ℕ) → place + 16 ≤ n → wrong_frame_header n place f ≡ none →
    microseconds f ≤ 999999
unfolding wrong_frame_header
header-micro n place f h e =
    let b = none_both (showing n 7 (place + 7) (ltb 999999 (microseconds f)))
    (showing n 8 (place + 11) (ltb 65535 (stored_length f))) e in
    ltb-false 999999 (microseconds f) (shows n 7 (place + 7) (ltb 999999 (microseconds f)) (omega arith) b.0)

frames-timed : (n place : ℕ) (fs gs : List (List ℕ)) → All Whole fs → All Bytes fs →
    place + length (end_to_end fs) ≤ n →
    wrong_frame n place (fs ++ gs) ≡ none → All (λ (f : List ℕ). frame_time f ≤ last_time) fs
unfolding wrong_frame end_to_end
frames-timed n place [] gs w b h e = empty
frames-timed n place (f ∷ fs) gs (and w ws) (and b bs) h e =
    let x = none_both (wrong_frame_header n place f) (wrong_frame n (place + length f) (fs ++ gs)) e in
    let l = length-append f (end_to_end fs) in
    let k = size-least f in
    and (frame-time f b (header-micro n place f (omega arith) x.0))
    (frames-timed n (place + length f) fs gs ws bs (omega arith) x.1)

abbrev Timed : Packet → Type 0
Timed p = p.time ≤ last_time

from-timed : (n time place : ℕ) (s : List ℕ) → time ≤ last_time → All Timed (packets_from n time place s)
unfolding packets_from
from-timed zero time place s h = empty
from-timed (suc n) time place s h = and h (from-timed n time (place + 188) (drop 188 s) h)

packets-timed : (place : ℕ) (fs : List (List ℕ)) → All (λ (f : List ℕ). frame_time f ≤ last_time) fs →
    All Timed (packets place fs)
unfolding packets
packets-timed place [] h = empty
packets-timed place (f ∷ fs) (and h hs) =
    let here : All Timed (packets_of place f) =
    rw (of-from place f) (from-timed _ (frame_time f) (place + 58) (drop 58 f) h) in
    all_append here (packets-timed (place + length f) fs hs)

wanted-timed : (o : Opening) (s : List ℕ) → Bytes s → capture_fault o s ≡ none → capture_inside s ≡ false →
    All Timed (whole_wanted o s)
unfolding wanted_of
wanted-timed o s h c i =
    let fs = whole_frames s in
    let whole-bytes : All Bytes fs =
    unfold whole_frames behind_header in frames-bytes (drop 24 s) (bytes_drop 24 s h) in
    let room : 24 + length (end_to_end fs) ≤ length s = unfold base in omega (arith, base_sum s (header-there s i)) in
    let fine : wrong_frame (length s) 24 (fs ++ unfinished s ∷ []) ≡ none =
    unfold all_frames in (clear_of o s c).sound.frames in
    rw (wanted-between o s (between s i))
    (only-all (λ (p : Packet). is_wanted o p.bytes)
    (packets-timed 24 fs (frames-timed (length s) 24 fs (unfinished s ∷ []) (frames-whole s) whole-bytes room fine)))

-- ---- a unit has a packet, its least time is at most its greatest, and both are times of packets

abbrev Arrived : Arrival → Type 0
Arrived a = a.time ≤ last_time

after-arrived : (heeded known : Bool) (q : Packet) (ps : List Packet) → All Timed ps →
    All Arrived (arrivals_after heeded known q ps)
unfolding arrivals_after
after-arrived heeded known q [] h = empty
after-arrived heeded known q (p ∷ ps) (and h hs) =
    by-pick (All Arrived) (set_apart known p) (and h (after-arrived heeded known q ps hs))
    (and h (after-arrived heeded known p ps hs))

all-arrived : (heeded known : Bool) (ps : List Packet) → All Timed ps → All Arrived (arrivals heeded known ps)
unfolding arrivals
all-arrived heeded known [] h = empty
all-arrived heeded known (p ∷ ps) (and h hs) =
    by-pick (All Arrived) (set_apart known p) (all-arrived heeded known ps hs)
    (and h (after-arrived heeded known p ps hs))

cells-arrived : (xs : List Arrival) → All Arrived xs → All Arrived (cells_of xs)
unfolding cells_of
cells-arrived xs h = only-all (λ (a : Arrival). not a.damaged) h

-- a unit's cells: some, each in time
pub data Group : List Arrival → Type 0 where
  group : {a : Arrival} {xs : List Arrival} → All Arrived (a ∷ xs) → Group (a ∷ xs)

into_first-group : (a : Arrival) {gs : List (List Arrival)} → Arrived a → All Group gs → All Group (into_first a gs)
into_first-group a h empty = and (group (and h empty)) empty
into_first-group a h (and (group g) gs) = and (group (and h g)) gs

all-groups : (xs : List Arrival) → All Arrived xs → All Group (groups xs)
unfolding groups
all-groups [] h = empty
all-groups (a ∷ []) h = and (group h) empty
all-groups (a ∷ b ∷ xs) (and h hs) =
    let g = all-groups (b ∷ xs) hs in
    by-pick (All Group) b.begins (and (group (and h empty)) g) (into_first-group a h g)

abbrev times : List Arrival → List ℕ
times xs = map (λ (a : Arrival). a.time) xs

least_first : (x : ℕ) (xs : List ℕ) → least_of x xs ≤ x
unfolding least_of
least_first x [] = omega arith
least_first x (y ∷ ys) = rw (smaller-min x (least_of y ys)) (omega arith)

greatest-first : (x : ℕ) (xs : List ℕ) → x ≤ greatest_of (x ∷ xs)
unfolding greatest_of
greatest-first x xs = rw (larger-max x (greatest_of xs)) (omega arith)

greatest-most : (xs : List Arrival) → All Arrived xs → greatest_of (times xs) ≤ last_time
unfolding greatest_of
greatest-most [] h = omega arith
greatest-most (a ∷ xs) (and h hs) =
    let g = greatest-most xs hs in
    rw (larger-max a.time (greatest_of (times xs))) (omega arith)

-- ---- the units of a capture of n bytes

pub record UnitRange (n : ℕ) (u : UnitRow) : Type 0 where
  pub ordered : u.least ≤ u.greatest
  pub time : u.greatest ≤ 4294967295 * 1000000 + 999999
  pub some : 1 ≤ u.packets
  pub size : u.size ≡ 184 * u.packets
  pub packets : 188 * u.packets ≤ n
  pub lost : 188 * u.lost ≤ 14 * n
  pub damaged : 188 * u.damaged ≤ n

-- of a unit's cells
record CellRange (cs : List Arrival) : Type 0 where
  ordered : least_time cs ≤ greatest_of (times cs)
  time : greatest_of (times cs) ≤ 4294967295 * 1000000 + 999999
  some : 1 ≤ length cs

cell-range : {cs : List Arrival} → Group cs → CellRange cs
unfolding least_time
cell-range (group {a} {xs} h) =
    let x = least_first a.time (times xs) in
    let y = greatest-first a.time (times xs) in
    record { ordered = omega arith; time = greatest-most (a ∷ xs) h; some = omega arith }

unit-range : (n : ℕ) (g : List Arrival) → Group (cells_of g) → 188 * (unit_of g).packets ≤ n →
    188 * (unit_of g).lost ≤ 14 * n → 188 * (unit_of g).damaged ≤ n → UnitRange n (unit_of g)
unfolding unit_of
unit-range n g h p l d =
    let r = cell-range h in
    record { ordered = r.ordered; time = r.time; some = r.some; size = refl; packets = p; lost = l; damaged = d }

units-each : (n : ℕ) (gs : List (List Arrival)) → All Group (map cells_of gs) →
    188 * all_packets (map unit_of gs) ≤ n → 188 * all_lost (map unit_of gs) ≤ 14 * n →
    188 * all_damaged (map unit_of gs) ≤ n → Each (UnitRange n) (map unit_of gs)
unfolding total
units-each n [] h p l d = tt
units-each n (g ∷ gs) (and h hs) p l d = (
  unit-range n g h (omega arith) (omega arith) (omega arith),
  units-each n gs hs (omega arith) (omega arith) (omega arith),
)

pub unit-ranges : (o : Opening) (capture luma : List ℕ) → Sealable o capture luma → Bytes capture →
    Each (UnitRange (length capture)) (units o capture)
unfolding units units_of
unit-ranges o capture luma h b =
    let ps = whole_wanted o capture in
    let few = wanted-few o capture in
    let heeded = heeds_splices o.edition in
    let known = knows_damage o.edition in
    let all = arrivals heeded known ps in
    let p : all_packets (map unit_of (groups all)) + all_damaged (map unit_of (groups all)) + before_units known ps
    ≡ length ps = packets-total o.edition ps in
    let l : all_lost (map unit_of (groups all)) ≤ 14 * length ps = lost-small o.edition ps in
    let timed = wanted-timed o capture b h.clear h.inside in
    let cells : All Group (map cells_of (groups all)) =
    rw (cells-groups heeded known ps) at
    (all-groups (cells_of all) (cells-arrived all (all-arrived heeded known ps timed))) in
    units-each (length capture) (groups all) cells (omega arith) (omega arith) (omega arith)

-- word 28 is zero where no damage is known
all-each : {A : Type 0} {P : A → Type 0} {xs : List A} → All P xs → Each P xs
all-each empty = tt
all-each (and h hs) = (h, all-each hs)

pub unit-zeros : (o : Opening) (capture : List ℕ) → knows_damage o.edition ≡ false →
    Each (λ u. u.damaged ≡ 0) (units o capture)
unfolding units
unit-zeros o capture h = all-each (zero-units o.edition (whole_wanted o capture) h)

pub unit-fits : {n : ℕ} {u : UnitRow} → n ≤ 268435456 → UnitRange n u → UnitFits u
unit-fits {n} {u} h r =
    record {
      least = omega arith;
      greatest = omega arith;
      size = omega arith;
      packets = omega arith;
      lost = omega arith;
      damaged = omega arith;
    }

pub capture-most : (o : Opening) (capture luma : List ℕ) → Sealable o capture luma → length capture ≤ 268435456
capture-most o capture luma h = long_of capture (clear_of o capture h.clear).sound.long

-- ---- scenes

take-most : (most n : ℕ) (xs : List ℕ) → All (AtMost most) xs → total (take n xs) ≤ most * n
unfolding total
take-most most zero xs h = omega arith
take-most most (suc n) [] h = omega arith
take-most most (suc n) (x ∷ xs) (and h hs) = let k = take-most most n xs hs in rw (mul-suc most n) (omega arith)

-- a scene among n pictures
pub record SceneRange (n : ℕ) (s : SceneRow) : Type 0 where
  pub inside : s.first + s.pictures ≤ n
  pub repeated : s.repeated ≤ s.pictures
  pub longest : s.longest ≤ s.repeated
  pub score : s.score ≤ 1000000 * s.pictures
  pub peak : s.peak ≤ s.score
  pub change : s.change ≤ 25500 * s.pictures

module _ (ss : List ℕ) (rs : List Bool) (qs : List ℕ) where
  -- what holds of the scene between any two starts holds of every scene
  each-scene : (P : SceneRow → Type 0) → ((i j : ℕ) → i < j → j ≤ length ss → P (scene_of ss rs qs i j)) →
      {b : ℕ} {is : List ℕ} → b < length ss → Apart 1 (length ss) b is → Each P (scenes_at ss rs qs (b ∷ is))
  unfolding scenes_at
  each-scene P h {b} k last = (h b (length ss) k (omega arith), tt)
  each-scene P h {b} k (next {i} g e r) = (h b i (omega arith) (omega arith), each-scene P h e r)

  module _ (scored : All (AtMost 1000000) ss) (changed : All (AtMost 25500) qs) where
    scene-range : (i j : ℕ) → i < j → j ≤ length ss → SceneRange (length ss) (scene_of ss rs qs i j)
    unfolding scene_of
    scene-range i j h k =
        let a = count-few is_true (span i j rs) in
        let b = length-take (j - i) (drop i rs) in
        let c = longest-most 0 (span i j rs) in
        record {
          inside = omega arith;
          repeated = omega arith;
          longest = omega arith;
          score = take-most 1000000 (j - i) (drop i ss) (all_drop i scored);
          peak = peak-most (span i j ss);
          change = take-most 25500 (j - i) (drop i qs) (all_drop i changed);
        }

    pub scene-each : (d : ℕ) → Each (SceneRange (length ss)) (scenes_of d ss rs qs)
    scene-each d = go (dec_le 1 (length ss))
      where
        some : (n : ℕ) → 600000 ≤ n * d → 1 ≤ n
        some zero g = absurd (omega arith)
        some (suc n) g = omega arith

        go : Dec (1 ≤ length ss) → Each (SceneRange (length ss)) (scenes_of d ss rs qs)
        go (yes h) =
            unfold scenes_of in
            rw (starts_first d ss h)
            (each-scene (SceneRange (length ss)) scene-range h
            (starts_apart d ss 1 (length ss) some (below_length ss) (length ss - 1) 0 1 (omega arith)))
        go (no h) = let e = no-elements ss (omega arith) in unfold scenes_of starts scenes_at in rw e tt

-- ---- the scenes of a sample

module _ (o : Opening) (luma : List ℕ) (bytes : Bytes luma) where
  pub scene-ranges : opening_fault o ≡ none → Each (SceneRange (picture_count o luma)) (scenes o luma)
  unfolding scenes scenes_in
  scene-ranges h =
      let pxs = reduced o luma in
      let rounds = rounds_to_nearest o.edition in
      rw (sample-scores o luma) at
      (scene-each (cut_scores (map (histograms o) pxs)) (repeats pxs) (changes rounds pxs)
      (sample-scored o luma bytes)
      (sample-changed o luma bytes rounds h) o.time)

pub scene-fits : {n : ℕ} {s : SceneRow} → n ≤ 750 → SceneRange n s → SceneFits s
scene-fits {n} {s} h r =
    record {
      first = omega arith;
      pictures = omega arith;
      repeated = omega arith;
      longest = omega arith;
      score = omega arith;
      peak = omega arith;
      change = omega arith;
    }

-- ---- the index's bits, and the header

index-small : (o : Opening) (capture luma : List ℕ) → index_bits (index o capture luma) < 2 ^ 64
unfolding index_bits index index_from index_of value_of
index-small o capture luma = to_bits-lt binary64 _ (add-fits binary64 (float 1) _)

each_map : {A : Type 0} {P Q : A → Type 0} → ((x : A) → P x → Q x) → (xs : List A) → Each P xs → Each Q xs
each_map f [] h = tt
each_map f (x ∷ xs) h = (f x h.0, each_map f xs h.1)

-- every figure of a sample that can be sealed fits its word of the record
pub figures-fit : (o : Opening) (capture luma : List ℕ) → Sealable o capture luma → Bytes capture → Bytes luma →
    Figures (header o capture luma) (units o capture) (scenes o luma)
unfolding header
figures-fit o capture luma h bc bl =
    let g = good o h.opened in
    let most = capture-most o capture luma h in
    let u = units-most o capture luma h in
    let s = sample-few o luma h.opened in
    let n = pictures-most o luma in
    let f = frame-count-few capture in
    let k = skipped-few capture in
    let b = bad-few o capture in
    record {
      header = record {
        edition = unfold is_edition in omega (arith, (inside 1 _ o.edition g.edition).1);
        length = unfold record_length in omega arith;
        width = omega arith;
        height = omega arith;
        time = omega arith;
        pid = omega arith;
        pictures = omega arith;
        frames = omega arith;
        skipped = omega arith;
        bad = omega arith;
        index = index-small o capture luma;
      };
      units = refl;
      scenes = refl;
      unit_rows = each_map (λ u. unit-fits most) (units o capture) (unit-ranges o capture luma h bc);
      scene_rows = each_map (λ s. scene-fits n) (scenes o luma) (scene-ranges o luma bl h.opened);
    }
