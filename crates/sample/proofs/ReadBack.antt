-- DEMAND 2: the statement of `specs/ReadBack` holds.
use Prim.Native.Nat.{ℕ}
use native.Mathlib.Omega.{arith}
use mathlib.Core.Path.{◌≡◌, refl, sym, ◌∙◌}
use mathlib.Core.List.{List, [], ◌∷◌, ◌++◌}
use lib.ListN.{length, take}
use Rattle.rules.specs.declared.Opening.{Opening}
use Rattle.std.specs.Prelude.{Ok}
use Rattle.rules.specs.Refusals.{Answer, Fault, none, fault, answer}
use Rattle.rules.specs.Bytes.{Bytes}
use Rattle.rules.specs.Seal.{over, sealed, sealed_length, seal_fault, seal_answer, sealed_buffer}
use Rattle.rules.specs.Calls.{Reply, seal, sealed_into, Call, ask, Outcome, replied, answer_to, capture_fed, luma_fed}
use Rattle.record_laws.proofs.Sealed.{sealed-length, sealed-header, sealed-unit, sealed-scene}
use Rattle.record_reader.proofs.Theorems.{front}
use Rattle.sample_questions.specs.State.{State}
use Rattle.sample.specs.Contract.{OpenPost}
use Rattle.sample.specs.Calls.{Runs}
use Rattle.sample.specs.ReadBack.{ReadsAs, SealReadsBack}
use Rattle.sample.proofs.Lists.{runs, asked-last}

done_none : (f : Fault) (m n : ℕ) → Ok n ≡ answer f m → (f ≡ none) × (n ≡ m)
done_none none m n e = (refl, (cc))
done_none (fault k p) m n e = absurd (let z : ◌≡◌ {A = ℕ} 0 1 = cc in omega arith)

-- a seal that is done left the record in front, and the record reads so
module _ (o : Opening) (capture luma before after : List ℕ) (n : ℕ)
    (e : sealed_into (Ok n) after ≡ answer_to o capture luma (seal before)) where
  pub sealed-well : (seal_fault o capture luma (length before) ≡ none) × (n ≡ sealed_length o capture luma)
  unfolding seal_answer
  sealed-well = done_none (seal_fault o capture luma (length before)) (sealed_length o capture luma) n (cc)

  pub in-front : take n after ≡ sealed o capture luma
  unfolding seal_answer sealed_buffer
  in-front =
      let b : after ≡ sealed_buffer o capture luma before = cc in
      let w = sealed-well in
      let l : n ≡ length (sealed o capture luma) = w.1 ∙ sym (sealed-length o capture luma) in
      let r : after ≡ over (sealed o capture luma) before = b ∙ rw w.0 in
      rw (r, l) (front (sealed o capture luma) before)

  pub reads_as : Bytes capture → Bytes luma → ReadsAs o capture luma (take n after)
  reads_as bc bl =
      let w = sealed-well.0 in
      record {
        header = rw in-front (sealed-header o capture luma (length before) w bc bl);
        unit = λ j z h. rw in-front (sealed-unit o capture luma (length before) w bc bl j z h);
        scene = λ j z h. rw in-front (sealed-scene o capture luma (length before) w bc bl j z h);
      }

-- what the seal at the end of a list of calls came to
pub sealed-last : (o : Opening) (a : Answer ℕ) (st end : State) (cs : List Call) (os : List Outcome)
    (before after : List ℕ)
    (n : ℕ) → OpenPost o a st →
    Runs st (cs ++ ask (seal before) ∷ []) (os ++ replied (sealed_into (Ok n) after) ∷ []) end →
    sealed_into (Ok n) after ≡ answer_to o (capture_fed cs) (luma_fed cs) (seal before)
sealed-last o a st end cs os before after n p r =
    told
    (asked-last o [] [] cs os (replied (sealed_into (Ok n) after)) (seal before)
    (runs o [] [] p.means r).outcomes)
  where
    told : {x y : Reply} → replied x ≡ replied y → x ≡ y
    told e = cc

pub seal-reads-back : SealReadsBack
seal-reads-back o a st end cs os before after n p bc bl r =
    reads_as o (capture_fed cs) (luma_fed cs) before after n (sealed-last o a st end cs os before after n p r) bc bl
