-- The opening, refusals that stay, the limit, a turn, and whether the capture ends inside a frame.
use Prim.Native.Nat.{ℕ, ◌+◌, ◌≤◌, ◌<◌}
use native.Mathlib.Omega.{arith}
use mathlib.Core.Path.{◌≡◌, refl, sym, subst, ◌∙◌}
use mathlib.Core.List.{List, [], ◌++◌}
use lib.ListN.{length}
use mathlib.Core.Bool.{true}
use lib.Dec.{ltb}
use borrow.Author.Tests.{lt-ltb, le-ltb}
use Rattle.rules.specs.Refusals.{fault}
use Rattle.rules.specs.Capture.{capture_inside}
use Rattle.capture_laws.proofs.Format.{magic-early, link-early, long_of, format-kept, sound-of, four}
use Rattle.capture_laws.proofs.Format.{header-shows}
use Rattle.capture_steps.specs.declared.types.Walk.{Walk}
use Rattle.capture_steps.specs.declared.types.Step.{Step}
use Rattle.capture_steps.specs.declared.types.Event.TheVariants.{Refused}
use Rattle.capture_steps.specs.Format.{format_fault}
use Rattle.capture_steps.specs.State.{loaded, Stands, refused, head, live}
use Rattle.capture_steps.specs.Contract.{Halts, again, surplus, Goes}
use Rattle.capture_walk.specs.Contract.{Opened, Stood, Turned}
use Rattle.capture_steps.proofs.Pieces.{at-live, at_head}

-- ---- the opening

abbrev pub fresh : Walk
fresh = record { status = 0; place = 0; fed = 0; at = 0; size = 0; got = 0; left = 0; frames = 0; skipped = 0 }

pub opens : (w kept : List ℕ) → length w ≡ 16 → length kept ≡ 64 → loaded w ≡ fresh → Opened w kept
opens w kept l k e =
    record {
      room = l;
      stands =
          rw e
          (head
          (record {
            room = k;
            status = refl;
            clear = header-shows [] (omega arith) ∙ rw (magic-early [] (omega arith), link-early [] (omega arith));
            fed = refl;
            short = omega arith;
            frames = refl;
            skipped = refl;
            many = refl;
            bytes = λ i x. absurd (omega arith);
          }));
    }

-- ---- refusals

-- a refusal that the bytes show now
pub refuse : {kept : List ℕ} {r : Walk} {piece joined a : List ℕ} (n k p : ℕ) → length kept ≡ 64 →
    format_fault a ≡ fault k p → 0 < k → r.status ≡ k → r.place ≡ p →
    Halts r joined a → Stood kept (record { taken = n; walk = r; event = Refused }) piece joined a
refuse n k p l e h a b g = record { stands = refused l (rw (e, a, b)) (omega arith); tells = (rw (e, a, b), g) }

-- one that stands already
pub refuse-again : {kept : List ℕ} {s : Walk} {piece joined : List ℕ} (n : ℕ) (t : List ℕ) → (s.status ≡ 0 → ⊥) →
    Stands kept s joined →
    Stood kept (record { taken = n; walk = s; event = Refused }) piece joined (joined ++ t)
refuse-again {kept} {s} {piece} {joined} n t h (refused l e k) =
    let f = format-kept joined t s.status s.place e in
    record { stands = refused l f k; tells = (f, again e) }
refuse-again n t h (head v) = absurd (h v.status)
refuse-again n t h (live g v) = absurd (h v.status)

-- 4: the limit
pub limit : {kept : List ℕ} {s : Walk} {piece joined : List ℕ} (n : ℕ) (r : Walk) (t : List ℕ) → s.status ≡ 0 →
    268435456 ≤ s.fed → 0 < length t →
    r.status ≡ 4 → r.place ≡ 268435456 → Stands kept s joined →
    Stood kept (record { taken = n; walk = r; event = Refused }) piece joined (joined ++ t)
limit {kept} {s} {piece} {joined} n r t h k some rs rp st =
    let z = at-live h (omega arith) st in
    let u = z.1 in
    let c = sound-of joined u.clear in
    let l = long_of joined c.long in
    let f = u.fed in
    refuse n 4 268435456 u.room (four joined t c (omega arith) some) (omega arith) rs rp (surplus (omega arith))

-- 11
pub inside-head : {kept : List ℕ} {s : Walk} {joined : List ℕ} → s.fed < 24 → s.status ≡ 0 → Stands kept s joined →
    true ≡ capture_inside joined
unfolding capture_inside
inside-head {kept} {s} {joined} h k st = let v = at_head k h st in rw (lt-ltb (length joined) 24 v.short)

pub inside-live : {kept : List ℕ} {s : Walk} {joined : List ℕ} → 24 ≤ s.fed → s.status ≡ 0 → Stands kept s joined →
    ltb 0 s.at ≡ capture_inside joined
unfolding capture_inside
inside-live {kept} {s} {joined} h k st = let v = at-live k h st in rw (le-ltb (length joined) 24 v.0, v.1.many)

-- ---- a turn

pub turned : {k : List ℕ} {s : Walk} {piece : List ℕ} {i n : ℕ} {k' : List ℕ} {r : Step} → 0 < n →
    i + n ≤ length piece → Goes k s piece i n k' r → Turned k s piece i k' r
turned {k} {s} {piece} {i} {n} {k'} {r} p q g =
    record {
      some = rw g.taken p;
      most = rw g.taken q;
      goes = subst (λ (m : ℕ). Goes k s piece i m k' r) (sym g.taken) g;
    }
