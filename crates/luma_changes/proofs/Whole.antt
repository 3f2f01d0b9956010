-- Figures of a whole picture of bytes are exact: V and "repeated" are made of them. No code.
use Rattle.std.proofs.Common.{◌≡◌, ℕ, ◌-◌, ◌*◌, ◌%◌, ◌^◌, ◌≤◌, eqb, List, length, sym, ap, ◌∙◌, mod-eq_of_lt, arith}
use Rattle.rules.specs.Bytes.{apart, Bytes}
use Rattle.rules.specs.Changes.{same, spread}
use Rattle.luma_laws.specs.Tallies.{ups, downs, squared}
use Rattle.luma_laws.proofs.Moves.{ups-most, downs-most, squared-most, squares-are, spread-are, same-squares}
use Rattle.luma_changes.specs.declared.sums.Moves.{Moves}
use Rattle.luma_changes.specs.Figures.{Figures}

-- the three sums, below 2 ^ 32
pub record Exact (old px : List ℕ) (m : Moves) : Type 0 where
  pub up : m.up % 2 ^ 32 ≡ ups old px
  pub down : m.down % 2 ^ 32 ≡ downs old px
  pub both : m.squares % 2 ^ 32 ≡ squared old px

pub exact : {old px : List ℕ} {m : Moves} → Figures old px m → Bytes old → Bytes px → length px ≤ 65536 →
    Exact old px m
exact {old} {px} {m} f g h few =
    record {
      up = f.up ∙ mod-eq_of_lt (omega (arith, ups-most old px h));
      down = f.down ∙ mod-eq_of_lt (omega (arith, downs-most old px g h));
      both = f.both ∙ mod-eq_of_lt (omega (arith, squared-most old px g h));
    }

-- V
pub spread-of : {old px : List ℕ} {m : Moves} → Exact old px m → length old ≡ length px →
    spread old px ≡ length px * (m.squares % 2 ^ 32) - apart (m.up % 2 ^ 32)
    (m.down % 2 ^ 32) * apart (m.up % 2 ^ 32) (m.down % 2 ^ 32)
spread-of {old} {px} {m} e h = rw (e.up, e.down, e.both) (spread-are old px h)

-- the picture is repeated
pub same_of : {old px : List ℕ} {m : Moves} → Exact old px m → length old ≡ length px →
    same old px ≡ eqb (m.squares % 2 ^ 32) 0
same_of {old} {px} {m} e h =
    same-squares old px h ∙ ap (λ (s : ℕ). eqb s 0) (squares-are old px (omega arith) ∙ sym e.both)
