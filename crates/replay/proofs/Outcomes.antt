-- What a seal writes behind its answer, and the call that a script has at a place.
use Prim.Native.Nat.{ℕ, ◌+◌, ◌-◌, ◌≤◌, ◌<◌}
use native.Mathlib.Omega.{arith}
use mathlib.Core.Path.{◌≡◌, ap, ◌∙◌}
use mathlib.Core.List.{List, ◌∷◌, ◌++◌, append-nil}
use lib.ListN.{length, take, drop, replicate, length-drop, length-replicate, drop_of_length-le}
use lib.Seq.{take_all, drop_at, length-take-le}
use borrow.Rule.Slice.PartMut.{mid_of, post_of, put_mid}
use Rattle.std.specs.Prelude.{Some}
use Rattle.rules.specs.Refusals.{Answer}
use Rattle.rules.specs.Calls.{Question, seal, index, repeats, sealed_into, Call, feed_capture, feed_luma, ask, fed}
use Rattle.rules.specs.Calls.{replied}
use Rattle.sample_questions.specs.State.{State, Words, words_of}
use Rattle.sample_seal.specs.Contract.{SealPost}
use Rattle.sample.specs.Calls.{asks}
use Rattle.sample.proofs.Feeds.{ran-capture, ran-luma}
use Rattle.replay_script.specs.declared.Head.{Head}
use Rattle.replay_script.specs.declared.Head.TheVariants.{Capture, Luma, Seal, Index, Repeats}
use Rattle.replay_script.specs.Script.{calls_with, reply_room, size_of}
use Rattle.replay_outcomes.specs.Codes.{code}
use Rattle.replay.specs.Run.{FedCapture, FedLuma, Replied, CallPost}

-- the part from 17 on
part-size : (out : List ℕ) → 17 ≤ length out → length (mid_of 17 (length out - 17) out) ≡ length out - 17
part-size out h = length-take-le (length out - 17) (drop 17 out) (simp length-drop (omega arith))

-- what stands from 17 on when a part was put there
pub part-back : (out part : List ℕ) (k : ℕ) → 17 ≤ length out → length out ≤ 17 + k →
    drop 17 (put_mid 17 k out part) ≡ part
part-back out part k h g =
    let size = length-drop 17 out in
    drop_at (take 17 out) (part ++ post_of 17 k out) 17 (length-take-le 17 out h)
    ∙ rw (drop_of_length-le (drop 17 out) {i = k} (omega arith), append-nil part)

pub sealed-law : (w : Words) (out filled buffer out' : List ℕ) (a : Answer ℕ) (m : ℕ) → 17 ≤ length out →
    filled ≡ replicate (length (mid_of 17 (length out - 17) out)) 165 →
    m ≡ length out - 17 →
    SealPost w (mid_of 17 m (put_mid 17 (length out - 17) out filled)) a buffer →
    out' ≡ code a ++ drop 17 (put_mid 17 m (put_mid 17 (length out - 17) out filled) buffer) →
    17 ≤ length (put_mid 17 (length out - 17) out filled) → length (put_mid 17 (length out - 17) out filled) ≤ 17 + m →
    Replied w (seal (replicate (length out - 17) 165)) out'
sealed-law v out filled buffer out' a m h f z p w lo hi =
    let size = part-size out h in
    let back = part-back out filled (length out - 17) h (omega arith) in
    let long : length filled ≡ length out - 17 = ap length f ∙ length-replicate {A = ℕ} _ 165 ∙ size in
    let same : mid_of 17 m (put_mid 17 (length out - 17) out filled) ≡ replicate (length out - 17) 165 =
    ap (take m) back ∙ take_all m filled (omega arith) ∙ f ∙ ap (λ (n : ℕ). replicate n 165) size
    in
    record {
      reply = sealed_into a buffer;
      post = rw same at p;
      wrote = w ∙ ap (λ (l : List ℕ). code a ++ l)
          (part-back (put_mid 17 (length out - 17) out filled) buffer m lo hi);
    }

-- ---- feeds and questions

pub after-capture : (st st' : State) (script out' : List ℕ) (at n from end : ℕ) (h : Head) → h ≡ Capture n →
    from ≡ at + 5 → end ≡ from + n → FedCapture st (take (end - from) (drop from script)) st' out' →
    CallPost st script at h end st' out'
after-capture st st' script out' at n from end h e f z p =
    let k : end - from ≡ n = omega arith in
    record {
      call = feed_capture (take (end - from) (drop from script));
      outcome = fed p.answer;
      first = λ more. rw (e, k, z, f);
      ran = ran-capture p.post;
      wrote = p.wrote;
      size = rw e;
      on = omega arith;
    }

pub after-luma : (st st' : State) (script out' : List ℕ) (at n from end : ℕ) (h : Head) → h ≡ Luma n →
    from ≡ at + 5 → end ≡ from + n → FedLuma st (take (end - from) (drop from script)) st' out' →
    CallPost st script at h end st' out'
after-luma st st' script out' at n from end h e f z p =
    let k : end - from ≡ n = omega arith in
    record {
      call = feed_luma (take (end - from) (drop from script));
      outcome = fed p.answer;
      first = λ more. rw (e, k, z, f);
      ran = ran-luma p.post;
      wrote = p.wrote;
      size = rw e;
      on = omega arith;
    }

-- a question changes no state; the next call stands at `next`
pub after-question : (st : State) (script out' : List ℕ) (at next : ℕ) (h : Head) (q : Question) →
    ((more : ℕ → List Call) → calls_with (Some h) script at more ≡ ask q ∷ more next) →
    size_of h ≡ reply_room q → at < next → Replied (words_of st) q out' → CallPost st script at h next st out'
after-question st script out' at next h q first size on p =
    record {
      call = ask q;
      outcome = replied p.reply;
      first = first;
      ran = asks p.post;
      wrote = p.wrote;
      size = size;
      on = on;
    }

pub after-seal : (st : State) (script out' : List ℕ) (at n from size : ℕ) (h : Head) → h ≡ Seal n → from ≡ at + 5 →
    size ≡ 17 + n →
    Replied (words_of st) (seal (replicate (size - 17) 165)) out' → CallPost st script at h from st out'
after-seal st script out' at n from size h e f z p =
    let k : size - 17 ≡ n = omega arith in
    after-question st script out' at from h (seal (replicate (size - 17) 165)) (λ more. rw (e, k, f))
    (rw (e, k, length-replicate {A = ℕ} n 165)) (omega arith) p

pub after-index : (st : State) (script out' : List ℕ) (at from : ℕ) (h : Head) → h ≡ Index → from ≡ at + 1 →
    Replied (words_of st) index out' → CallPost st script at h from st out'
after-index st script out' at from h e f p =
    after-question st script out' at from h index (λ more. rw (e, f)) (rw e) (omega arith) p

pub after-repeats : (st : State) (script out' : List ℕ) (at from a b : ℕ) (h : Head) → h ≡ Repeats a b →
    from ≡ at + 9 → Replied (words_of st) (repeats a b) out' → CallPost st script at h from st out'
after-repeats st script out' at from a b h e f p =
    after-question st script out' at from h (repeats a b) (λ more. rw (e, f)) (rw e) (omega arith) p
