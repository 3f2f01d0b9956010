-- The answer's contract, by its case.
use Prim.Native.Nat.{ℕ, ◌-◌, ◌≤◌}
use mathlib.Core.Path.{◌≡◌, sym, ap, subst, ◌∙◌}
use mathlib.Core.List.{List}
use mathlib.Core.Bool.{Bool}
use lib.ListN.{length}
use Rattle.std.specs.Prelude.{Ok}
use Rattle.rules.specs.Refusals.{Answer, refused, none, fault}
use Rattle.rules.proofs.Laws.Answers.{ok-same, ok-err}
use Rattle.rules.specs.Passage.{repeated_in, passage_fault}
use Rattle.luma_passage.specs.Contract.{Mapped, AnswerPost}

module _ (w : List ℕ) (n a b : ℕ) (r : Answer ℕ) where
  pub refused_post : r ≡ refused 26 0 → passage_fault n a b ≡ fault 26 0 → AnswerPost w n a b r
  refused_post e f =
      record { rule = λ rs x l. rw f e; refusal = rw (e, f); most = λ m x. absurd (ok-err (sym x ∙ e)) }

  pub done-post : (m : ℕ) → r ≡ Ok m → m ≤ b - a → passage_fault n a b ≡ none →
      ((rs : List Bool) → Mapped w rs → length rs ≡ n → m ≡ repeated_in a b rs) →
      AnswerPost w n a b r
  done-post m e h f counted =
      record {
        rule = λ rs x l. rw (e, f) (ap Ok (counted rs x l));
        refusal = rw (e, f);
        most = λ l x. subst (λ (k : ℕ). k ≤ b - a) (ok-same (sym e ∙ x)) h;
      }
