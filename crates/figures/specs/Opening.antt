-- Opening: what `opening_fault` and `sizes_of` promise.
use Rattle.std.specs.Prelude.{ℕ, zero, suc, ◌≤◌, ◌≡◌}
use Rattle.rules.specs.declared.Opening.{Opening}
use Rattle.rules.specs.Refusals.{Fault, none, fault}
use Rattle.rules.specs.Opening.{opening_fault, level, side, area, columns, lines}
use Rattle.rules.specs.Pictures.{picture_size}
use Rattle.figures.specs.declared.opening.Sizes.{Sizes}

-- a refusal by its number, which names no place; 0 is none
abbrev pub numbered : ℕ → Fault
numbered zero = none
numbered (suc k) = fault (suc k) 0

-- r is the number of the opening's refusal
pub record OpeningFault (o : Opening) (r : ℕ) : Type 0 where
  pub shown : opening_fault o ≡ numbered r
  pub few : r ≤ 20

-- the sizes of an opening, also of a refused one
abbrev pub sizes_of : Opening → Sizes
sizes_of o =
    record {
      level = level o;
      side = side o;
      area = area o;
      columns = columns o;
      lines = lines o;
      picture = picture_size o;
    }
