-- The sum of a run's bytes is the library's sum. No code.
use Rattle.std.proofs.Common.{◌≡◌, ℕ, ◌+◌, List, [], ◌∷◌, sum_by, refl, ap, sym, ◌∙◌}
use Rattle.std.proofs.lemmas.List.Sums.{sum_by-cons}
use Rattle.rules.specs.Bytes.{total}

pub total-sum : (s : List ℕ) → total s ≡ sum_by (λ b. b) s
unfolding total
total-sum [] = refl
total-sum (x ∷ xs) = ap (λ n. x + n) (total-sum xs) ∙ sym (sum_by-cons (λ b. b) x xs)
