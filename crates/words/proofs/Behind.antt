-- Strings that are written on piece by piece, each piece behind the one before.
use Prim.Native.Nat.{ℕ, ◌+◌, ◌≤◌}
use native.Mathlib.Omega.{arith}
use native.Mathlib.Nat.{zero-add}
use mathlib.Core.Path.{◌≡◌, sym, ◌∙◌}
use mathlib.Core.List.{List, ◌++◌}
use lib.ListN.{length}
use Rattle.rules.specs.Seal.{over}
use Rattle.words.specs.Written.{written}
use Rattle.words.proofs.Laws.{written-append}

-- n bytes at a place, and more just behind them
module _ (at n : ℕ) (bs cs s : List ℕ) {s₁ s₂ : List ℕ} (size : length bs ≡ n) (fits : at + n ≤ length s) where
  pub next : s₁ ≡ written at bs s → s₂ ≡ written (at + n) cs s₁ → s₂ ≡ written at (bs ++ cs) s
  next e₁ e₂ =
      let p : at + n ≡ at + length bs = omega arith in
      let f : at + length bs ≤ length s = omega arith in
      e₂ ∙ rw (e₁, p) (written-append at bs s f cs)

pub over-written : (bs s : List ℕ) → written 0 bs s ≡ over bs s
unfolding written over
over-written bs s = rw (zero-add (length bs))

-- what is written just behind p
pub behind : (p x b : List ℕ) (n : ℕ) → length p ≡ n → n ≤ length b → written n x (over p b) ≡ over (p ++ x) b
behind p x b n e k =
    next 0 n p x b e (omega arith) (sym (over-written p b)) (rw (zero-add n)) ∙ over-written (p ++ x) b
