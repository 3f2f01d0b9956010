-- A figure of every row, added up in one chain.
use Prim.Native.Nat.{ℕ, zero, suc, ◌+◌, ◌*◌, ◌≤◌}
use native.Mathlib.Omega.{arith}
use native.Mathlib.Nat.{mul-suc}
use native.Mathlib.Numerals.{add-one}
use mathlib.Core.Path.{◌≡◌, refl, ap, ◌∙◌}
use mathlib.Core.List.{map}
use Rattle.std.specs.List.{sum, range_with_len}
use Rattle.std.proofs.lemmas.List.Sums.{sum_by-cons}
use Rattle.rules.specs.Bytes.{total, table}

module _ (f : ℕ → ℕ) where
  pub sum_of_rows : (n from : ℕ) → sum (map f (range_with_len from n)) ≡ total (table n from f)
  unfolding total table
  sum_of_rows zero from = refl
  sum_of_rows (suc n) from =
      sum_by-cons (λ (x : ℕ). x) (f from) (map f (range_with_len (from + 1) n))
      ∙ rw (add-one from) (ap (λ (x : ℕ). f from + x) (sum_of_rows n (suc from)))

  pub table-most : (most : ℕ) → ((j : ℕ) → f j ≤ most) → (n from : ℕ) → total (table n from f) ≤ most * n
  unfolding total table
  table-most most h zero from = omega arith
  table-most most h (suc n) from =
      let a = table-most most h n (suc from) in
      let b = h from in
      rw (mul-suc most n) (omega arith)
