-- How a run goes on, up to the promise of `replay`.
use Prim.Native.Nat.{ℕ, ◌+◌, ◌-◌, ◌≤◌, ◌<◌}
use native.Mathlib.Omega.{arith}
use mathlib.Core.Path.{◌≡◌, refl, sym, ap, ◌∙◌}
use mathlib.Core.List.{List, [], ◌∷◌, ◌++◌, append-nil, append_assoc}
use mathlib.Core.Bool.{Bool, true, false}
use lib.Dec.{leb}
use lib.ListN.{length, take, drop, length-append, length-drop, drop_of_length-le, take-append-drop}
use lib.Seq.{take_all, append_snoc, take_at, drop_at, drop-drop, length-take-le}
use borrow.Author.Tests.{leb-true}
use borrow.Rule.Slice.PartMut.{mid_of, put_mid, Post-is}
use Rattle.std.specs.Prelude.{Some, None}
use Rattle.rules.specs.Refusals.{Answer}
use Rattle.rules.specs.Calls.{Call, Outcome}
use Rattle.sample_questions.specs.State.{State}
use Rattle.sample.specs.Contract.{OpenPost}
use Rattle.sample.specs.Calls.{Runs, done, next}
use Rattle.sample.proofs.Lists.{every-list}
use Rattle.replay_script.specs.declared.Head.{Head}
use Rattle.replay_script.specs.Script.{opening_of, head_at, calls_with, calls_by, calls_of, room, room_for, size_of}
use Rattle.replay_script.proofs.Laws.{calls-on, calls-end, room-append, takes}
use Rattle.replay_outcomes.specs.Codes.{code, code_of, codes}
use Rattle.replay_outcomes.proofs.Laws.{code-size, codes-snoc}
use Rattle.replay.specs.Run.{replayed, Replayed, CallPost, Played, All}

-- a run so far: from the state st₀, by the calls before `at`, to the state st, with their outcomes at
-- the front of out, up to `to`
pub record Sofar (st₀ : State) (script out₀ : List ℕ) (at to : ℕ) (st : State) (out : List ℕ) : Type 0 where
  pub before : List Call
  pub outcomes : List Outcome
  pub fuel : ℕ
  pub enough : length script ≤ at + fuel
  pub split : calls_of script ≡ before ++ calls_by fuel script at
  pub ran : (cs : List Call) (os : List Outcome) (end : State) → Runs st cs os end →
      Runs st₀ (before ++ cs) (outcomes ++ os) end
  pub count : to ≡ room before
  pub head : take to out ≡ codes outcomes
  pub tail : drop to out ≡ drop to out₀

pub start : (st : State) (script out : List ℕ) → Sofar st script out 20 0 st out
unfolding codes calls_of room
start st script out =
    record {
      before = [];
      outcomes = [];
      fuel = length script;
      enough = omega arith;
      split = refl;
      ran = λ cs os end r. r;
      count = refl;
      head = refl;
      tail = refl;
    }

-- the calls so far were all
ended : (st₀ : State) (script out₀ : List ℕ) (at to : ℕ) (st : State) (out : List ℕ)
    (f : Sofar st₀ script out₀ at to st out) →
    calls_of script ≡ f.before → Played st₀ script out₀ out
ended st₀ script out₀ at to st out f all =
    record {
      outcomes = f.outcomes;
      end = st;
      ran = rw all (rw (append-nil f.before, append-nil f.outcomes) at (f.ran [] [] st done));
      wrote = sym (take-append-drop to out) ∙ rw (f.head, f.tail, f.count, ← all);
    }

module _ (st₀ : State) (script out₀ : List ℕ) (at to : ℕ) (st : State) (out : List ℕ)
    (f : Sofar st₀ script out₀ at to st out) (inside : at < length script) where
  pub go_on : (h : Head) (at' end : ℕ) (st' : State) (part : List ℕ) → head_at script at ≡ Some h →
      end ≡ to + size_of h → end ≤ length out →
      length part ≡ end - to →
      CallPost st script at h at' st' part →
      Sofar st₀ script out₀ at' end st' (put_mid to (end - to) out part)
  unfolding room
  go_on h at' end st' part here z r size n =
      let s = calls-on f.fuel script at inside f.enough in
      let p = take to out ++ code_of n.outcome in
      let q = drop end out in
      let same : length (code_of n.outcome) ≡ end - to = sym (ap length n.wrote) ∙ size in
      let long : length p ≡ end = length-append (take to out) (code_of n.outcome)
      ∙ rw (length-take-le to out (omega arith), same) (omega arith) in
      let whole : put_mid to (end - to) out part ≡ p ++ q =
      rw (Post-is to end out (omega arith), n.wrote, append_assoc (take to out) (code_of n.outcome) q) in
      let after : to + (end - to) ≡ end = omega arith in
      let more : drop end out ≡ drop end out₀ =
      ap (λ (k : ℕ). drop k out) (sym after) ∙ sym (drop-drop (end - to) to out) ∙ ap (drop (end - to)) f.tail
      ∙ drop-drop (end - to) to out₀
      ∙ ap (λ (k : ℕ). drop k out₀) after
      in
      record {
        before = f.before ++ n.call ∷ [];
        outcomes = f.outcomes ++ n.outcome ∷ [];
        fuel = s.0;
        enough = omega (arith, s.1, f.enough, n.on);
        split = f.split ∙ rw (
          s.2,
          here,
          n.first (calls_by s.0 script),
          append_snoc f.before n.call (calls_by s.0 script at'),
        );
        ran = λ cs os end' x.
            rw (append_snoc f.before n.call cs, append_snoc f.outcomes n.outcome os)
            (f.ran (n.call ∷ cs) (n.outcome ∷ os) end' (next n.ran x));
        count = omega (arith, room-append f.before (n.call ∷ []), f.count, n.size);
        head = rw (whole, take_at p q end long, codes-snoc f.outcomes n.outcome, f.head);
        tail = rw (whole, drop_at p q end long, more);
      }

  -- the list ends here
  pub stops : head_at script at ≡ None → All st₀ script out₀ out
  stops none room-there =
      let s = calls-on f.fuel script at inside f.enough in
      ended st₀ script out₀ at to st out f (f.split ∙ rw (s.2, none, append-nil f.before))

  -- there is no room for the call that is left
  pub full : (h : Head) (x : List ℕ) → head_at script at ≡ Some h → length out₀ - to < size_of h → to ≤ length out₀ →
      All st₀ script out₀ x
  unfolding room
  full h x here less inside-out room-there =
      let s = calls-on f.fuel script at inside f.enough in
      let all : room (calls_of script)
      ≡ room f.before + room (calls_with (Some h) script at (calls_by s.0 script)) =
      ap room f.split ∙ room-append f.before (calls_by f.fuel script at) ∙ rw (s.2, here)
      in
      absurd (omega (arith, takes h script at (calls_by s.0 script), f.count))

-- nothing is left of the script
pub finish : (st₀ : State) (script out₀ : List ℕ) (at to : ℕ) (st : State) (out : List ℕ) →
    Sofar st₀ script out₀ at to st out → length script ≤ at → All st₀ script out₀ out
finish st₀ script out₀ at to st out f h room-there =
    ended st₀ script out₀ at to st out f (f.split ∙ rw (calls-end f.fuel script at h, append-nil f.before))

abbrev Wrote : List ℕ → List ℕ → List ℕ → Type 0
Wrote script out out' = room_for script ≤ length out → out' ≡ replayed script out

-- DEMAND 3, of a run that was made: the opening's answer is at the front, and the calls' outcomes behind it
run-made : (a : Answer ℕ) (st : State) (script out part : List ℕ) → OpenPost (opening_of script) a st → 17 ≤ length out →
    All st script (drop 17 out) part → Wrote script out (code a ++ part)
unfolding codes
run-made a st script out part o h f enough =
    let size : length (drop 17 out) ≡ length out - 17 = length-drop 17 out in
    let p = f (omega arith) in
    let t = every-list (opening_of script) a st (calls_of script) p.outcomes p.end o p.ran in
    rw (p.wrote, t.outcomes, t.opening, drop-drop (room (calls_of script)) 17 out, append_assoc)

-- and so of the part of out that is lent for the calls
pub replays : (a : Answer ℕ) (st : State) (script out out' part : List ℕ) (k : ℕ) → OpenPost (opening_of script) a st →
    17 ≤ length out →
    out' ≡ code a ++ drop 17 out → length out' ≤ 17 + k → All st script (mid_of 17 k out') part →
    Wrote script out (put_mid 17 k out' part)
replays a st script out out' part k o h e g f =
    let rest : drop 17 out' ≡ drop 17 out = ap (drop 17) e ∙ drop_at (code a) (drop 17 out) 17 (code-size a) in
    let front : take 17 out' ≡ code a = ap (take 17) e ∙ take_at (code a) (drop 17 out) 17 (code-size a) in
    let size : length (drop 17 out') ≡ length out' - 17 = length-drop 17 out' in
    let lent : mid_of 17 k out' ≡ drop 17 out = take_all k (drop 17 out') (omega arith) ∙ rest in
    let back : put_mid 17 k out' part ≡ code a ++ part =
    rw (drop_of_length-le (drop 17 out') {i = k} (omega arith), append-nil part, front) in
    rw back (run-made a st script out part o h (rw lent at f))

-- THE PROMISE
pub no_room : (script out : List ℕ) (b : Bool) → b ≡ leb (room_for script) (length out) → b ≡ false →
    Replayed script out false out
no_room script out b e f = record { answer = sym f ∙ e; buffer = refl }

pub kept-promise : (script out out' : List ℕ) (b : Bool) → b ≡ leb (room_for script) (length out) → b ≡ true →
    Wrote script out out' → Replayed script out true out'
kept-promise script out out' b e f w =
    record { answer = sym f ∙ e; buffer = w (leb-true (room_for script) (length out) (sym e ∙ f)) }

pub answer-fits : (script out : List ℕ) (b : Bool) → b ≡ leb (room_for script) (length out) → b ≡ true →
    17 ≤ length out
answer-fits script out b e f = let h = leb-true (room_for script) (length out) (sym e ∙ f) in omega arith
