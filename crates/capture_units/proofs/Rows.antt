-- The table of units: what a unit's words are after they are set, and THE FRAME: every other unit is as it was.
use Rattle.std.proofs.Common.{◌≡◌, ℕ, ◌+◌, ◌*◌, ◌<◌, ◌≤◌, List, length, get_or, set, ◌∙◌, arith, length-set}
use Rattle.std.proofs.Common.{get_or-set_other, get_or-set_same}
use Rattle.capture_units.specs.declared.Unit.{Unit}
use Rattle.capture_units.specs.State.{unit_at, unit_set}

-- five words at a
abbrev five : List ℕ → ℕ → Unit → List ℕ
five w a u =
    set (set (set (set (set w a u.least) (a + 1) u.greatest) (a + 2) u.packets) (a + 3) u.lost) (a + 4)
    u.damaged

five-other : (w : List ℕ) (a : ℕ) (u : Unit) (i : ℕ) →
    (i ≡ a → ⊥) → (i ≡ a + 1 → ⊥) → (i ≡ a + 2 → ⊥) → (i ≡ a + 3 → ⊥) → (i ≡ a + 4 → ⊥) →
    get_or (five w a u) i 0 ≡ get_or w i 0
five-other w a u i h h₁ h₂ h₃ h₄ =
    rw (get_or-set_other, get_or-set_other, get_or-set_other, get_or-set_other, get_or-set_other)

-- THE FRAME
pub unit-other : (w : List ℕ) (u : Unit) (j k : ℕ) → (k ≡ j → ⊥) → unit_at (unit_set w j u) k ≡ unit_at w k
unit-other w u j k ne = rw (first, at 1 (omega arith), at 2 (omega arith), at 3 (omega arith), at 4 (omega arith))
  where
    first : get_or (unit_set w j u) (5 * k) 0 ≡ get_or w (5 * k) 0
    first =
        five-other w (5 * j) u (5 * k)
        (λ e. ne (omega arith)) (λ e. ne (omega arith)) (λ e. ne (omega arith)) (λ e. ne (omega arith))
        (λ e. ne (omega arith))

    at : (i : ℕ) → i < 5 → get_or (unit_set w j u) (5 * k + i) 0 ≡ get_or w (5 * k + i) 0
    at i h =
        five-other w (5 * j) u (5 * k + i)
        (λ e. ne (omega arith)) (λ e. ne (omega arith)) (λ e. ne (omega arith)) (λ e. ne (omega arith))
        (λ e. ne (omega arith))

pub set-size : (w : List ℕ) (u : Unit) (j : ℕ) → length (unit_set w j u) ≡ length w
set-size w u j = simp length-set

-- the unit that was set
pub unit-set : (w : List ℕ) (u : Unit) (j : ℕ) → 5 * j + 5 ≤ length w → unit_at (unit_set w j u) j ≡ u
unit-set w u j h = rw (first, second, third, fourth, fifth)
  where
    a : ℕ
    a = 5 * j

    w₁ : List ℕ
    w₁ = set w a u.least

    w₂ : List ℕ
    w₂ = set w₁ (a + 1) u.greatest

    w₃ : List ℕ
    w₃ = set w₂ (a + 2) u.packets

    w₄ : List ℕ
    w₄ = set w₃ (a + 3) u.lost

    last : (i : ℕ) → i < 4 → get_or (five w a u) (a + i) 0 ≡ get_or w₄ (a + i) 0
    last i k = get_or-set_other w₄ (a + 4) (a + i) u.damaged 0 (λ e. omega arith)

    first : get_or (five w a u) a 0 ≡ u.least
    first =
        get_or-set_other w₄ (a + 4) a u.damaged 0 (λ e. omega arith)
        ∙ get_or-set_other w₃ (a + 3) a u.lost 0 (λ e. omega arith)
        ∙ get_or-set_other w₂ (a + 2) a u.packets 0 (λ e. omega arith)
        ∙ get_or-set_other w₁ (a + 1) a u.greatest 0 (λ e. omega arith)
        ∙ get_or-set_same w a u.least 0 (omega arith)

    second : get_or (five w a u) (a + 1) 0 ≡ u.greatest
    second =
        last 1 (omega arith)
        ∙ get_or-set_other w₃ (a + 3) (a + 1) u.lost 0 (λ e. omega arith)
        ∙ get_or-set_other w₂ (a + 2) (a + 1) u.packets 0 (λ e. omega arith)
        ∙ get_or-set_same w₁ (a + 1) u.greatest 0 (simp length-set (omega arith))

    third : get_or (five w a u) (a + 2) 0 ≡ u.packets
    third =
        last 2 (omega arith)
        ∙ get_or-set_other w₃ (a + 3) (a + 2) u.lost 0 (λ e. omega arith)
        ∙ get_or-set_same w₂ (a + 2) u.packets 0 (simp length-set (omega arith))

    fourth : get_or (five w a u) (a + 3) 0 ≡ u.lost
    fourth = last 3 (omega arith) ∙ get_or-set_same w₃ (a + 3) u.lost 0 (simp length-set (omega arith))

    fifth : get_or (five w a u) (a + 4) 0 ≡ u.damaged
    fifth = get_or-set_same w₄ (a + 4) u.damaged 0 (simp length-set (omega arith))
