-- The laws of a script: heads, the calls from a place on, and the room that they take.
use Prim.Native.Nat.{ℕ, zero, suc, ◌+◌, ◌-◌, ◌≤◌, ◌<◌}
use native.Mathlib.Omega.{arith}
use mathlib.Core.Path.{◌≡◌, refl, sym, ◌∙◌}
use mathlib.Core.List.{List, [], ◌∷◌, ◌++◌}
use mathlib.Core.Bool.{Bool, true, false}
use lib.Dec.{leb, ltb, eqb}
use lib.ListN.{length, length-replicate, get_or-eq_default}
use borrow.Author.Tests.{le-leb, lt-leb, ltb-false, lt-ltb, ne_eqb}
use Rattle.std.specs.Prelude.{Option, Some, None}
use Rattle.rules.specs.Bytes.{pick, byte, word32}
use Rattle.rules.specs.Calls.{Call}
use Rattle.replay_script.specs.declared.Head.{Head}
use Rattle.replay_script.specs.declared.Head.TheVariants.{Capture, Luma, Seal, Index, Repeats}
use Rattle.replay_script.specs.Script.{head_by, passage_by, head_at, calls_with, calls_by, calls_of}
use Rattle.replay_script.specs.Script.{room, room_for, next_of, size_of}

-- ---- heads

pub short : (left kind n : ℕ) → left < 5 → None ≡ head_by left kind n
unfolding head_by
short left kind n h = rw (lt-ltb left 5 h)

-- an answer that is no head is None
pub no_head : (o : Option Head) → ((h : Head) → o ≡ Some h → ⊥) → o ≡ None
no_head None f = refl
no_head (Some h) f = absurd (f h refl)

-- another byte than I and R
pub other-head : (script : List ℕ) (at : ℕ) {h : Option Head} →
    (byte script at ≡ 73 → ⊥) → (byte script at ≡ 82 → ⊥) →
    h ≡ head_by (length script - at) (byte script at) (word32 script (at + 1)) →
    h ≡ head_at script at
other-head script at i r e = rw (ne_eqb (byte script at) 73 i, ne_eqb (byte script at) 82 r) e

-- a call's bytes are there
unfoldable pub bytes_of_head : Option Head → ℕ
bytes_of_head None = 0
bytes_of_head (Some (Capture n)) = 5 + n
bytes_of_head (Some (Luma n)) = 5 + n
bytes_of_head (Some (Seal n)) = 5
bytes_of_head (Some Index) = 0
bytes_of_head (Some (Repeats a b)) = 0

fits : (left kind n : ℕ) → bytes_of_head (head_by left kind n) ≤ left
unfolding head_by bytes_of_head
fits left kind n = a (ltb left 5) refl
  where
    d : (b : Bool) → 5 ≤ left → n ≤ left - 5 → bytes_of_head (pick b (Some (Luma n)) None) ≤ left
    d true p q = omega arith
    d false p q = omega arith

    e : (b : Bool) → 5 ≤ left → n ≤ left - 5 →
        bytes_of_head (pick b (Some (Capture n)) (pick (eqb kind 76) (Some (Luma n)) None)) ≤ left
    e true p q = omega arith
    e false p q = d (eqb kind 76) p q

    f : (b : Bool) → ltb (left - 5) n ≡ b → 5 ≤ left →
        bytes_of_head (pick b None
        (pick (eqb kind 67) (Some (Capture n)) (pick (eqb kind 76) (Some (Luma n)) None))) ≤ left
    f true g p = omega arith
    f false g p = e (eqb kind 67) p (ltb-false (left - 5) n g)

    s : (b : Bool) → 5 ≤ left → bytes_of_head (pick b (Some (Seal n)) (pick (ltb (left - 5) n) None
        (pick (eqb kind 67) (Some (Capture n)) (pick (eqb kind 76) (Some (Luma n)) None)))) ≤ left
    s true p = omega arith
    s false p = f (ltb (left - 5) n) refl p

    a : (b : Bool) → ltb left 5 ≡ b → bytes_of_head (pick b None (pick (eqb kind 83) (Some (Seal n))
        (pick (ltb (left - 5) n) None
        (pick (eqb kind 67) (Some (Capture n)) (pick (eqb kind 76) (Some (Luma n)) None))))) ≤ left
    a true g = omega arith
    a false g = s (eqb kind 83) (ltb-false left 5 g)

fits-at : (script : List ℕ) (at : ℕ) (h : Option Head) → h ≡ head_at script at → bytes_of_head h ≤ length script - at
unfolding bytes_of_head passage_by
fits-at script at h e = rw e (first (eqb (byte script at) 73))
  where
    left : ℕ
    left = length script - at

    short-or : (b : Bool) (m n : ℕ) → bytes_of_head (pick b None (Some (Repeats m n))) ≤ left
    short-or true m n = omega arith
    short-or false m n = omega arith

    second : (b : Bool) →
        bytes_of_head
        (pick b (passage_by left (word32 script (at + 1)) (word32 script (at + 5)))
        (head_by left (byte script at) (word32 script (at + 1)))) ≤
        left
    second true = short-or (ltb left 9) _ _
    second false = fits left _ _

    first : (b : Bool) →
        bytes_of_head
        (pick b (Some Index)
        (pick (eqb (byte script at) 82) (passage_by left (word32 script (at + 1)) (word32 script (at + 5)))
        (head_by left (byte script at) (word32 script (at + 1))))) ≤
        left
    first true = omega arith
    first false = second (eqb (byte script at) 82)

pub fits-capture : (script : List ℕ) (at n : ℕ) → Some (Capture n) ≡ head_at script at → 5 + n ≤ length script - at
unfolding bytes_of_head
fits-capture script at n e = fits-at script at (Some (Capture n)) e

pub fits-luma : (script : List ℕ) (at n : ℕ) → Some (Luma n) ≡ head_at script at → 5 + n ≤ length script - at
unfolding bytes_of_head
fits-luma script at n e = fits-at script at (Some (Luma n)) e

-- ---- the calls from a place on

pub calls-on : (f : ℕ) (script : List ℕ) (at : ℕ) → at < length script → length script ≤ at + f →
    (g : ℕ) × (f ≡ suc g) × (calls_by f script at ≡ calls_with (head_at script at) script at (calls_by g script))
unfolding calls_by
calls-on zero script at h e = absurd (omega arith)
calls-on (suc g) script at h e = (g, refl, refl)

pub calls-end : (f : ℕ) (script : List ℕ) (at : ℕ) → length script ≤ at → calls_by f script at ≡ []
unfolding calls_by
calls-end zero script at h = refl
calls-end (suc f) script at h =
    let none : byte script at ≡ 0 = get_or-eq_default script 0 h in
    let s = short (length script - at) (byte script at) (word32 script (at + 1)) (omega arith) in
    let z = other-head script at (λ e. omega arith) (λ e. omega arith) s in
    rw (← z)

-- ---- room

pub room-append : (cs ds : List Call) → room (cs ++ ds) ≡ room cs + room ds
unfolding room
room-append [] ds = omega arith
room-append (c ∷ cs) ds = let i = room-append cs ds in omega arith

pub takes : (h : Head) (script : List ℕ) (at : ℕ) (more : ℕ → List Call) →
    size_of h ≤ room (calls_with (Some h) script at more)
unfolding room
takes (Capture n) script at more = omega arith
takes (Luma n) script at more = omega arith
takes (Seal n) script at more = rw length-replicate (omega arith)
takes Index script at more = omega arith
takes (Repeats a b) script at more = omega arith

pub next-on : (h : Head) (at : ℕ) → at < next_of h at
next-on (Capture n) at = omega arith
next-on (Luma n) at = omega arith
next-on (Seal n) at = omega arith
next-on Index at = omega arith
next-on (Repeats a b) at = omega arith

takes-on : (h : Head) (script : List ℕ) (at : ℕ) (more : ℕ → List Call) →
    room (calls_with (Some h) script at more) ≡ size_of h + room (more (next_of h at))
unfolding room
takes-on (Capture n) script at more = refl
takes-on (Luma n) script at more = refl
takes-on (Seal n) script at more = rw length-replicate
takes-on Index script at more = refl
takes-on (Repeats a b) script at more = refl

-- ---- room so far: the opening's answer and the calls before `at` take `to` bytes
pub record Taken (script : List ℕ) (at to : ℕ) : Type 0 where
  pub fuel : ℕ
  pub enough : length script ≤ at + fuel
  pub sum : room_for script ≡ to + room (calls_by fuel script at)

pub taken_start : (script : List ℕ) → Taken script 20 17
unfolding calls_of
taken_start script = record { fuel = length script; enough = omega arith; sum = refl }

module _ (script : List ℕ) (at to most : ℕ) (f : Taken script at to) (below : to ≤ most) where
  pub taken-end : length script ≤ at → true ≡ leb (room_for script) most
  unfolding room
  taken-end h =
      let e = calls-end f.fuel script at h in
      let z : room_for script ≡ to + 0 = f.sum ∙ rw e in sym (le-leb (room_for script) most (omega arith))

  module _ (inside : at < length script) where
    pub taken-stop : head_at script at ≡ None → true ≡ leb (room_for script) most
    unfolding room
    taken-stop z =
        let s = calls-on f.fuel script at inside f.enough in
        let e : room_for script ≡ to + 0 = f.sum ∙ rw (s.2, z) in
        sym (le-leb (room_for script) most (omega arith))

    pub taken-full : (h : Head) → head_at script at ≡ Some h → most - to < size_of h →
        false ≡ leb (room_for script) most
    taken-full h here less =
        let s = calls-on f.fuel script at inside f.enough in
        let e : room_for script ≡ to + room (calls_with (Some h) script at (calls_by s.0 script)) =
        f.sum ∙ rw (s.2, here) in
        sym (lt-leb (room_for script) most (omega (arith, takes h script at (calls_by s.0 script))))

    pub taken-on : (h : Head) → head_at script at ≡ Some h → Taken script (next_of h at) (to + size_of h)
    taken-on h here =
        let s = calls-on f.fuel script at inside f.enough in
        let e : room_for script ≡ to + room (calls_with (Some h) script at (calls_by s.0 script)) =
        f.sum ∙ rw (s.2, here) in
        record {
          fuel = s.0;
          enough = omega (arith, s.1, f.enough, next-on h at);
          sum = omega (arith, e, takes-on h script at (calls_by s.0 script));
        }
