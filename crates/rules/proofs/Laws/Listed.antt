-- No refusal of the rules has a number outside the table, and whatever number is listed is one of the
-- table's.
use Prim.Native.Nat.{ℕ, ◌+◌, ◌*◌, ◌%◌, ◌≤◌, ◌<◌}
use native.Mathlib.Omega.{arith}
use mathlib.Core.Path.{◌≡◌, refl}
use mathlib.Core.Bool.{Bool, true, false, not, ◌&&◌}
use mathlib.Core.List.{List, [], ◌∷◌}
use lib.ListN.{length, drop}
use lib.Dec.{leb, ltb, eqb}
use borrow.Author.Tests.{le-leb, lt-leb, leb-true}
use Rattle.rules.specs.declared.Opening.{Opening}
use Rattle.rules.specs.declared.UnitRow.{UnitRow}
use Rattle.rules.specs.Bytes.{pick, word32}
use Rattle.rules.specs.Refusals.{Fault, none, fault, unless, ◌or_else◌, last_number, InTable, listed}
use Rattle.rules.specs.Editions.{is_edition}
use Rattle.rules.specs.Opening.{good_size, good_time, good_pid, opening_fault}
use Rattle.rules.specs.Frames.{microseconds, stored_length}
use Rattle.rules.specs.Units.{Arrival, beginnings}
use Rattle.rules.specs.Capture.{all_frames, units, shown_wanted, showing, earlier, too_long, is_magic}
use Rattle.rules.specs.Capture.{wrong_magic, wrong_link}
use Rattle.rules.specs.Capture.{wrong_frame_header, wrong_frame, begins_at, too_many_units, capture_fault}
use Rattle.rules.specs.Capture.{capture_inside, format_fault}
use Rattle.rules.specs.Pictures.{picture_size, picture_count, luma_fault}
use Rattle.rules.specs.Seal.{sealed_length, capture_unfinished, no_packet, luma_unfinished, no_picture, no_room}
use Rattle.rules.specs.Seal.{seal_fault}
use Rattle.rules.specs.Survey.{no_good, survey_fault}
use Rattle.rules.specs.Reading.{allowed, reading_fault, row_fault, unit_fault, scene_fault}
use Rattle.rules.specs.Busiest.{most_fault, busiest_fault}
use Rattle.rules.specs.Shelf.{record_count, laid_out, records, refused_at, first_refused, shelf_fault, part_fault}
use Rattle.rules.specs.Rtp.{RtpLists, rtp_units, good_lists, rtp_fault}

-- ---- a number in the table, below it and above it

pub in_table : (k : ℕ) → 1 ≤ k → k ≤ last_number → k ≡ listed k
in_table k h g = rw (le-leb 1 k h, le-leb k last_number g)

pub below-table : (k : ℕ) → k < 1 → 18 ≡ listed k
below-table k h = rw (lt-leb 1 k h)

pub above-table : (k : ℕ) → last_number < k → 18 ≡ listed k
above-table k h = rw (le-leb 1 k (omega arith), lt-leb k last_number h)

-- what is listed is in the table
pub listed_in : (k : ℕ) → InTable (listed k)
listed_in k = low (leb 1 k) refl
  where
    high : (b : Bool) → leb k last_number ≡ b → 1 ≤ k → InTable (pick b k 18)
    high true e h = (h, leb-true k last_number e)
    high false e h = (omega arith, omega arith)

    low : (b : Bool) → leb 1 k ≡ b → InTable (pick (b && leb k last_number) k 18)
    low true e = high (leb k last_number) refl (leb-true 1 k e)
    low false e = (omega arith, omega arith)

-- ---- refusals

-- the number is in the table
abbrev pub Numbered : Fault → Type 0
Numbered none = Unit {0}
Numbered (fault k p) = listed k ≡ k

-- ---- choices keep it

pub of-pick : (b : Bool) (f g : Fault) → Numbered f → Numbered g → Numbered (pick b f g)
of-pick true f g x y = x
of-pick false f g x y = y

pub of_either : (f g : Fault) → Numbered f → Numbered g → Numbered (f or_else g)
of_either none g x y = y
of_either (fault k p) g x y = x

pub of-unless : (b : Bool) (k : ℕ) → listed k ≡ k → Numbered (unless b k)
of-unless true k x = tt
of-unless false k x = x

of-earlier : (f g : Fault) → Numbered f → Numbered g → Numbered (earlier f g)
of-earlier none g x y = y
of-earlier (fault k p) none x y = x
of-earlier (fault k p) (fault l q) x y = of-pick (leb p q) (fault k p) (fault l q) x y

of-showing : (size k place : ℕ) (wrong : Bool) → listed k ≡ k → Numbered (showing size k place wrong)
unfolding showing
of-showing size k place wrong x = of-pick (ltb place size && wrong) (fault k place) none x tt

-- ---- the refusals of the rules

pub opening : (o : Opening) → Numbered (opening_fault o)
unfolding opening_fault
opening o =
    of_either (unless (good_size o.width o.height) 1) _ (of-unless (good_size o.width o.height) 1 refl)
    (of_either (unless (good_time o.time) 2) _ (of-unless (good_time o.time) 2 refl)
    (of_either (unless (good_pid o.pid) 3) _ (of-unless (good_pid o.pid) 3 refl)
    (of-unless (is_edition o.edition) 20 refl)))

of-header : (size place : ℕ) (f : List ℕ) → Numbered (wrong_frame_header size place f)
unfolding wrong_frame_header
of-header size place f =
    of-earlier (showing size 7 (place + 7) (ltb 999999 (microseconds f)))
    (showing size 8 (place + 11) (ltb 65535 (stored_length f)))
    (of-showing size 7 (place + 7) (ltb 999999 (microseconds f)) refl)
    (of-showing size 8 (place + 11) (ltb 65535 (stored_length f)) refl)

of-frames : (size place : ℕ) (fs : List (List ℕ)) → Numbered (wrong_frame size place fs)
unfolding wrong_frame
of-frames size place [] = tt
of-frames size place (f ∷ fs) =
    of-earlier (wrong_frame_header size place f) (wrong_frame size (place + length f) fs) (of-header size place f)
    (of-frames size (place + length f) fs)

of-begins : (xs : List Arrival) → Numbered (begins_at xs)
of-begins [] = tt
of-begins (a ∷ more) = refl

of-long : (c : List ℕ) → Numbered (too_long c)
unfolding too_long
of-long c = of-showing (length c) 4 268435456 true refl

of-magic : (c : List ℕ) → Numbered (wrong_magic c)
unfolding wrong_magic
of-magic c = of-showing (length c) 5 3 (not (is_magic c)) refl

of-link : (c : List ℕ) → Numbered (wrong_link c)
unfolding wrong_link
of-link c = of-showing (length c) 6 23 (not (eqb (word32 c 20) 1)) refl

of-many : (o : Opening) (c : List ℕ) → Numbered (too_many_units o c)
unfolding too_many_units
of-many o c = of-begins (drop 750 (beginnings o.edition (shown_wanted o c)))

-- 4 to 8
pub format : (c : List ℕ) → Numbered (format_fault c)
unfolding format_fault
format c =
    let frames = wrong_frame (length c) 24 (all_frames c) in
    of-earlier (too_long c) (earlier (wrong_magic c) (earlier (wrong_link c) frames)) (of-long c)
    (of-earlier (wrong_magic c) (earlier (wrong_link c) frames) (of-magic c)
    (of-earlier (wrong_link c) frames (of-link c) (of-frames (length c) 24 (all_frames c))))

-- and 9
pub capture : (o : Opening) (c : List ℕ) → Numbered (capture_fault o c)
unfolding capture_fault
capture o c = of-earlier (format_fault c) (too_many_units o c) (format c) (of-many o c)

-- 4 to 8, 11, 21
pub survey : (c : List ℕ) (most : ℕ) → Numbered (survey_fault c most)
unfolding survey_fault capture_unfinished no_good
survey c most =
    of_either (format_fault c) _ (format c)
    (of_either (pick (capture_inside c) (fault 11 (length c)) none) _
    (of-pick (capture_inside c) (fault 11 (length c)) none refl tt)
    (of-pick (eqb most 0) (fault 21 0) none refl tt))

pub luma : (o : Opening) (l : List ℕ) → Numbered (luma_fault o l)
unfolding luma_fault
luma o l = of-pick (ltb (750 * picture_size o) (length l)) (fault 10 (750 * picture_size o)) none refl tt

pub of-units : (us : List UnitRow) → Numbered (no_packet us)
unfolding no_packet
of-units [] = refl
of-units (u ∷ us) = tt

-- 11 to 15, in their order
of-ends : (inside whole none_yet short : Bool) (us : List UnitRow) (c l n : ℕ) →
    Numbered
    (pick inside (fault 11 c) none
    or_else no_packet us
    or_else pick whole none (fault 13 l)
    or_else pick none_yet (fault 14 0) none
    or_else pick short (fault 15 n) none)
unfolding no_packet
of-ends true w y s us c l n = refl
of-ends false w y s [] c l n = refl
of-ends false false y s (u ∷ us) c l n = refl
of-ends false true true s (u ∷ us) c l n = refl
of-ends false true false true (u ∷ us) c l n = refl
of-ends false true false false (u ∷ us) c l n = tt

pub seal : (o : Opening) (c l : List ℕ) (n : ℕ) → Numbered (seal_fault o c l n)
unfolding seal_fault capture_unfinished luma_unfinished no_picture no_room
seal o c l n =
    let size = sealed_length o c l in
    let ends = of-ends (capture_inside c) (eqb (length l % picture_size o) 0) (eqb (picture_count o l) 0) (ltb n size)
    (units o c) (length c) (length l) size in
    of_either (opening_fault o) _ (opening o)
    (of_either (capture_fault o c) _ (capture o c) (of_either (luma_fault o l) _ (luma o l) ends))

-- 15 alone
pub room : (buffer needed : ℕ) → Numbered (no_room buffer needed)
unfolding no_room
room buffer needed = of-pick (ltb buffer needed) (fault 15 needed) none refl tt

pub reading : (r : List ℕ) → Numbered (reading_fault r)
unfolding reading_fault
reading r =
    of_either (unless (leb 64 (length r)) 16) _ (of-unless (leb 64 (length r)) 16 refl)
    (of_either (unless (is_edition (word32 r 0)) 17) _ (of-unless (is_edition (word32 r 0)) 17 refl)
    (of-unless (allowed r) 18 refl))

of_row : (rows j : ℕ) → Numbered (row_fault rows j)
unfolding row_fault
of_row rows j = of-unless (ltb j rows) 19 refl

pub unit : (r : List ℕ) (j : ℕ) → Numbered (unit_fault r j)
unfolding unit_fault
unit r j = of_either (reading_fault r) (row_fault (word32 r 8) j) (reading r) (of_row (word32 r 8) j)

pub scene : (r : List ℕ) (j : ℕ) → Numbered (scene_fault r j)
unfolding scene_fault
scene r j = of_either (reading_fault r) (row_fault (word32 r 16) j) (reading r) (of_row (word32 r 16) j)

-- of the busiest sample
pub most : (d n : ℕ) → Numbered (most_fault d n)
unfolding most_fault no_picture
most d n =
    of_either (unless (good_time d) 2) _ (of-unless (good_time d) 2 refl)
    (of_either (pick (eqb n 0) (fault 14 0) none) _ (of-pick (eqb n 0) (fault 14 0) none refl tt)
    (of-unless (leb n 750) 10 refl))

pub busiest : (w h d n : ℕ) → Numbered (busiest_fault w h d n)
unfolding busiest_fault
busiest w h d n =
    of_either (unless (good_size w h) 1) (most_fault d n) (of-unless (good_size w h) 1 refl) (most d n)

-- of a shelf
of-refused : (f : Fault) (j : ℕ) → Numbered (refused_at f j)
of-refused none j = tt
of-refused (fault k p) j = refl

of-records : (j : ℕ) (rs : List (List ℕ)) → Numbered (first_refused j rs)
unfolding first_refused
of-records j [] = tt
of-records j (r ∷ rs) =
    of_either (refused_at (reading_fault r) j) (first_refused (j + 1) rs) (of-refused (reading_fault r) j)
    (of-records (j + 1) rs)

pub shelf : (s : List ℕ) → Numbered (shelf_fault s)
unfolding shelf_fault
shelf s =
    of_either (unless (laid_out s) 27) (first_refused 0 (records s)) (of-unless (laid_out s) 27 refl)
    (of-records 0 (records s))

pub part : (s : List ℕ) (j : ℕ) → Numbered (part_fault s j)
unfolding part_fault
part s j = of_either (shelf_fault s) _ (shelf s) (of-unless (ltb j (record_count s)) 19 refl)

-- of RTP rows: 25, then 15
pub rtp : (sequence : List ℕ) (l : RtpLists) (buffer : ℕ) → Numbered (rtp_fault sequence l buffer)
unfolding rtp_fault
rtp sequence l buffer =
    let needed = 32 * length (rtp_units sequence l) in
    of_either (unless (good_lists sequence l) 25) (no_room buffer needed) (of-unless (good_lists sequence l) 25 refl)
    (room buffer needed)
