-- What the answer says of a sample: words that are the map of its repeats give the rule's answer.
use Prim.Native.Nat.{ℕ, ◌+◌, ◌<◌}
use native.Mathlib.Nat.{sub-zero}
use native.Mathlib.Omega.{arith}
use mathlib.Core.Path.{◌≡◌, refl, ◌∙◌}
use mathlib.Core.List.{List, [], ◌∷◌}
use mathlib.Core.Bool.{Bool, true, false, not}
use lib.ListN.{length, get_or}
use lib.Seq.{take_all}
use Rattle.rules.specs.declared.Opening.{Opening}
use Rattle.rules.specs.Refusals.{Answer, none}
use Rattle.rules.specs.Bytes.{count}
use Rattle.rules.specs.Opening.{opening_fault}
use Rattle.rules.specs.Pictures.{picture_count}
use Rattle.rules.specs.Changes.{repeats}
use Rattle.rules.specs.Scenes.{is_true}
use Rattle.rules.specs.Seal.{reduced, unrepeated}
use Rattle.rules.specs.Passage.{repeated_in, repeats_fault, repeats_answer}
use Rattle.luma_laws.specs.Past.{map_word}
use Rattle.luma_laws.proofs.Scenes.{pictures-most}
use Rattle.luma_laws.proofs.Counted.{reduced-length}
use Rattle.luma_laws.proofs.Past.{length-repeats}
use Rattle.luma_state.specs.Layout.{repeats_at}
use Rattle.luma_passage.specs.Contract.{Mapped, AnswerPost}

module _ (o : Opening) (luma w : List ℕ)
    (words : (j : ℕ) → j < 12 → get_or w (repeats_at + j) 0 ≡ map_word (repeats (reduced o luma)) j) where
  all-pictures : length (repeats (reduced o luma)) ≡ picture_count o luma
  all-pictures = length-repeats (reduced o luma) ∙ reduced-length o luma

  sample-mapped : Mapped w (repeats (reduced o luma))
  sample-mapped = let e = all-pictures in let p = pictures-most o luma in record { few = omega arith; word = words }

  -- whatever was refused while feeding
  pub sample-passage : (a b : ℕ) (r : Answer ℕ) → opening_fault o ≡ none → AnswerPost w (picture_count o luma) a b r →
      r ≡ repeats_answer o luma a b
  unfolding repeats_answer repeats_fault
  sample-passage a b r h p = rw h (p.rule (repeats (reduced o luma)) sample-mapped all-pictures)

-- all pictures: those that are repeated and those that are not
both : (rs : List Bool) → count is_true rs + count not rs ≡ length rs
unfolding count
both [] = refl
both (true ∷ rs) = let h = both rs in omega arith
both (false ∷ rs) = let h = both rs in omega arith

pub whole-passage : (o : Opening) (luma : List ℕ) →
    repeated_in 0 (picture_count o luma) (repeats (reduced o luma)) + unrepeated o luma ≡ picture_count o luma
unfolding repeated_in unrepeated
whole-passage o luma =
    let rs = repeats (reduced o luma) in
    let e : length rs ≡ picture_count o luma = length-repeats (reduced o luma) ∙ reduced-length o luma in
    rw (sub-zero (picture_count o luma), take_all (picture_count o luma) rs (omega arith)) (both rs ∙ e)
