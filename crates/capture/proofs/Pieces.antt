-- From step to step through a piece, refusals that stay, and the numbers in the words.
use Prim.Native.Nat.{ℕ, zero, suc, ◌+◌, ◌≤◌}
use native.Mathlib.Omega.{arith}
use mathlib.Core.Path.{◌≡◌, refl, sym, ap, ◌∙◌}
use mathlib.Core.List.{List, [], ◌∷◌, ◌++◌, append-nil, append_assoc}
use lib.ListN.{length, take, drop, take-append-drop}
use lib.Seq.{take-add, take_all, sets, sets-eq}
use Rattle.rules.specs.declared.Opening.{Opening}
use Rattle.std.specs.Prelude.{Ok}
use Rattle.rules.specs.Refusals.{Answer, refused, Fault, none, fault, ◌or_else◌}
use Rattle.rules.specs.Opening.{opening_fault}
use Rattle.rules.specs.Capture.{capture_fault}
use Rattle.rules.specs.Seal.{capture_answer}
use Rattle.capture_laws.proofs.Begins.{capture-kept}
use Rattle.capture_laws.proofs.Format.{magic-early, link-early, header-units, capture-format, header-shows}
use Rattle.capture_steps.specs.declared.types.Walk.{Walk}
use Rattle.capture_steps.specs.declared.types.Step.{Step}
use Rattle.capture_steps.specs.State as walk
use Rattle.capture_steps.specs.Contract as walking
use Rattle.capture_walk.specs.Contract.{Stood, Stepped}
use Rattle.capture_steps.proofs.Use.{none-whole}
use Rattle.capture_counts.specs.declared.Tally.{Tally}
use Rattle.capture_counts.proofs.Laws.{counts-none}
use Rattle.capture.specs.declared.Meter.{Meter}
use Rattle.capture.specs.State.{Arrays, loaded, Live, Counting, stopped, live, Stands}
use Rattle.capture.specs.Contract.{Opened, FeedPost, Takes, Goes, Replies, Stored}

-- ---- a refusal stays

kept_on : (o : Opening) (joined t : List ℕ) (k p : ℕ) → opening_fault o or_else capture_fault o joined ≡ fault k p →
    opening_fault o or_else capture_fault o (joined ++ t) ≡ fault k p
kept_on o joined t k p = go (opening_fault o)
  where
    go : (f : Fault) → f or_else capture_fault o joined ≡ fault k p →
        f or_else capture_fault o (joined ++ t) ≡ fault k p
    go none e = capture-kept o joined t k p e
    go (fault l q) e = e

stays : {table : List ℕ} {t : Tally} {o : Opening} {joined : List ℕ} (more : List ℕ) → (t.status ≡ 0 → ⊥) →
    Counting table t o joined → Counting table t o (joined ++ more)
stays {table} {t} {o} {joined} more h (stopped e k) = stopped (kept_on o joined more t.status t.place e) k
stays more h (live v) = absurd (h v.counts.status)

is_live : {table : List ℕ} {t : Tally} {o : Opening} {joined : List ℕ} → t.status ≡ 0 → Counting table t o joined →
    Live table t o joined
is_live h (stopped e k) = absurd (omega arith)
is_live h (live v) = v

-- ---- a piece

pub goes_none : (kept table : List ℕ) (w : Walk) (t : Tally) →
    Goes kept table (record { walk = w; tally = t }) [] kept table (record { walk = w; tally = t })
goes_none kept table w t o joined h = rw append-nil h

module _ {k k' b b' : List ℕ} {s : Meter} {w : Walk} {t : Tally} (piece : List ℕ) (i : ℕ)
    (g : Goes k b s (take i piece) k' b' (record { walk = w; tally = t })) where
  -- a refusal stands: the rest is not looked at
  pub goes-stopped : (t.status ≡ 0 → ⊥) → Goes k b s piece k' b' (record { walk = w; tally = t })
  goes-stopped h o joined x =
      let e : joined ++ piece ≡ joined ++ take i piece ++ drop i piece =
      ap (λ (p : List ℕ). joined ++ p) (sym (take-append-drop i piece))
      ∙ sym (append_assoc joined (take i piece) (drop i piece)) in
      rw e (record { counting = stays (drop i piece) h (g o joined x).counting; walking = λ z. absurd (h z) })

  -- a step
  pub goes_step : {k'' b'' : List ℕ} {r : Step} {u : Tally} → t.status ≡ 0 → Stepped k' w piece i k'' r →
      Takes b' t piece r.walk r.event b'' u →
      Goes k b s (take (i + r.taken) piece) k'' b'' (record { walk = r.walk; tally = u })
  goes_step {k''} {b''} {r} {u} z st ta o joined x =
      rw (take-add i r.taken piece, ← append_assoc joined (take i piece) (take r.taken (drop i piece)))
      (record {
        counting = ta o k'' before chunk n.stands n.tells (is_live z h.counting);
        walking = λ _. n.stands;
      })
    where
      before : List ℕ
      before = joined ++ take i piece

      chunk : List ℕ
      chunk = take r.taken (drop i piece)

      h : Stands k' b' w t o before
      h = g o joined x

      n : Stood k'' r piece before (before ++ chunk)
      n = st.goes before (h.walking z)

  pub goes-all : length piece ≤ i → Goes k b s piece k' b' (record { walk = w; tally = t })
  goes-all h o joined x = rw (take_all i piece h) at (g o joined x)

-- ---- the calls

pub reply-stopped : {t : Tally} (n : ℕ) → (t.status ≡ 0 → ⊥) → Replies t n (refused t.status t.place)
unfolding capture_answer
reply-stopped n h table o joined (stopped e k) = rw e
reply-stopped n h table o joined (live v) = absurd (h v.counts.status)

pub reply-done : {t : Tally} (n : ℕ) → t.status ≡ 0 → Replies t n (Ok n)
unfolding capture_answer
reply-done n h table o joined c = let v = is_live h c in rw (v.good, v.clear)

pub feed-post : (before : Arrays) (piece : List ℕ) (a : Answer ℕ) (after : Arrays) (w : Walk) (t : Tally) (r : Meter) →
    w ≡ walk.loaded before.walk → t ≡ loaded before.numbers →
    Goes before.kept before.table (record { walk = w; tally = t }) piece after.kept after.table r →
    walking.Stored before.walk r.walk after.walk →
    Stored before.numbers r.tally after.numbers → Replies r.tally (length piece) a →
    FeedPost before piece a after
feed-post before piece a after w t r we te g sw sn an =
    record {
      means = λ o joined m.
          record {
            walked = sw.size ∙ m.walked;
            numbered = sn.size ∙ m.numbered;
            stands = rw (sw.loads m.walked, sn.loads m.numbered) (g o joined (rw (we, te) m.stands));
          };
      answer = λ o joined m. an after.table o (joined ++ piece) (g o joined (rw (we, te) m.stands)).counting;
    }

-- ---- the numbers in the words

abbrev pub listed : Tally → List ℕ
listed t = t.status ∷ t.place ∷ t.pid ∷ t.bad ∷ t.units.count ∷ t.units.previous ∷ t.units.packets
    ∷ t.units.lost ∷ t.edition ∷ []

pub stored : (w : List ℕ) (t : Tally) → 9 ≤ length w → loaded (sets w 0 (listed t)) ≡ t
stored w t h = ap loaded (sets-eq (listed t) w 0 h)

-- ---- the opening

clear_none : (o : Opening) → capture_fault o [] ≡ none
clear_none o =
    capture-format o []
    ∙ rw (
      header-shows [] (omega arith),
      magic-early [] (omega arith),
      link-early [] (omega arith),
      header-units [] (omega arith) o,
    )

abbrev pub fresh : ℕ → ℕ → ℕ → Tally
fresh number pid edition =
    record {
      status = number;
      place = 0;
      pid = pid;
      bad = 0;
      units = record { count = 0; previous = 0; packets = 0; lost = 0 };
      edition = edition;
    }

-- what the library gives by default, but for these three
pub fresh-is : {number pid edition : ℕ} {d : Tally} →
    (d.status ≡ 0) × ((d.place ≡ 0) × ((d.pid ≡ 0) × ((d.bad ≡ 0) × (((d.units.count ≡ 0) × ((d.units.previous ≡ 0)
    × ((d.units.packets ≡ 0) × (d.units.lost ≡ 0)))) × (d.edition ≡ 0))))) →
    record d { status = number; pid = pid; edition = edition } ≡ fresh number pid edition
fresh-is {d = d} (a, (b, (c, (e, ((f, (g, (h, i))), j))))) = rw (b, e, f, g, h, i)

pub opens : (a : Arrays) (number pid edition : ℕ) → walk.Means a.walk a.kept [] → length a.numbers ≡ 16 →
    length a.table ≡ 3750 → loaded a.numbers ≡ fresh number pid edition →
    Opened number pid edition a
opens a number pid edition m l b e o good bad p f =
    record {
      walked = m.room;
      numbered = l;
      stands = rw e (record { counting = go number refl; walking = λ _. m.stands });
    }
  where
    go : (n : ℕ) → n ≡ number → Counting a.table (fresh n pid edition) o []
    go zero z = live
        (record {
          good = good (sym z);
          clear = clear_none o;
          counts = rw (p, f, none-whole) (counts-none a.table o.pid o.edition b);
        })
    go (suc n) z = stopped (rw (bad (omega arith), ← z)) (omega arith)
