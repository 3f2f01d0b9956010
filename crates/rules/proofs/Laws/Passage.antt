-- The order of a count's refusals; passages behind each other, and all pictures.
use Prim.Native.Nat.{ℕ, ◌+◌, ◌-◌, ◌≤◌, ◌<◌}
use native.Mathlib.Omega.{arith}
use mathlib.Core.Path.{◌≡◌, refl}
use mathlib.Core.Bool.{Bool, ◌&&◌}
use mathlib.Core.List.{List}
use lib.ListN.{take, drop}
use lib.Seq.{drop-drop, take-add}
use lib.Dec.{leb}
use borrow.Author.Tests.{le-leb, lt-leb}
use Rattle.rules.specs.declared.Opening.{Opening}
use Rattle.rules.specs.Bytes.{count}
use Rattle.rules.specs.Refusals.{none, fault}
use Rattle.rules.specs.Opening.{opening_fault}
use Rattle.rules.specs.Pictures.{picture_count}
use Rattle.rules.specs.Scenes.{is_true, scene_of}
use Rattle.rules.specs.Passage.{repeated_in, passage_fault, repeats_fault}
use Rattle.rules.proofs.Laws.Lists.{count-append}
use Rattle.rules.proofs.Laws.Listed.{Numbered, of_either, of-unless, opening}

-- the opening's number comes first, whatever the passage
pub opening-first : (o : Opening) (luma : List ℕ) (a b k p : ℕ) → opening_fault o ≡ fault k p →
    repeats_fault o luma a b ≡ fault k p
unfolding repeats_fault
opening-first o luma a b k p e = rw e

-- 26: a above b; b above the pictures; otherwise none
pub turned : (n a b : ℕ) → b < a → passage_fault n a b ≡ fault 26 0
unfolding passage_fault
turned n a b h = rw (lt-leb a b h)

pub past : (n a b : ℕ) → a ≤ b → n < b → passage_fault n a b ≡ fault 26 0
unfolding passage_fault
past n a b h k = rw (le-leb a b h, lt-leb b n k)

pub inside : (n a b : ℕ) → a ≤ b → b ≤ n → passage_fault n a b ≡ none
unfolding passage_fault
inside n a b h k = rw (le-leb a b h, le-leb b n k)

-- and nothing else stops it: 4 to 10 do not
pub no_other : (o : Opening) (luma : List ℕ) (a b : ℕ) → opening_fault o ≡ none → a ≤ b → b ≤ picture_count o luma →
    repeats_fault o luma a b ≡ none
unfolding repeats_fault
no_other o luma a b e h k = rw (e, inside (picture_count o luma) a b h k)

-- its numbers are in the table
pub repeats-numbered : (o : Opening) (luma : List ℕ) (a b : ℕ) → Numbered (repeats_fault o luma a b)
unfolding repeats_fault passage_fault
repeats-numbered o luma a b =
    of_either (opening_fault o) _ (opening o) (of-unless (leb a b && leb b (picture_count o luma)) 26 refl)

-- ---- the count

-- the first n of a passage, and the others
pub repeated-split : (at n b : ℕ) (rs : List Bool) → at + n ≤ b →
    repeated_in at b rs ≡ count is_true (take n (drop at rs)) + repeated_in (at + n) b rs
unfolding repeated_in
repeated-split at n b rs h =
    let e : b - at ≡ n + (b - (at + n)) = omega arith in
    let first = take n (drop at rs) in
    let others = take (b - (at + n)) (drop (at + n) rs) in
    rw (e, take-add n (b - (at + n)) (drop at rs), drop-drop n at rs, count-append is_true first others)

-- no pictures
pub repeated-end : (at b : ℕ) (rs : List Bool) → b ≤ at → repeated_in at b rs ≡ 0
unfolding repeated_in count
repeated-end at b rs h = let e : b - at ≡ 0 = omega arith in rw e

-- a passage in two
pub passage-joined : (a b c : ℕ) (rs : List Bool) → a ≤ b → b ≤ c →
    repeated_in a c rs ≡ repeated_in a b rs + repeated_in b c rs
unfolding repeated_in
passage-joined a b c rs h k =
    let e : a + (b - a) ≡ b = omega arith in
    rw e at (repeated-split a (b - a) c rs (omega arith))

-- a scene row has its passage's
pub scene-passage : (ss : List ℕ) (rs : List Bool) (qs : List ℕ) (i j : ℕ) →
    (scene_of ss rs qs i j).repeated ≡ repeated_in i j rs
unfolding scene_of repeated_in
scene-passage ss rs qs i j = refl
