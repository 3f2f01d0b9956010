-- Document 02, R-8: losses worked by hand, as a table with one theorem over its entries. Figures are f64 bits.
use Prim.Native.Nat.{ℕ}
use mathlib.Core.Path.{◌≡◌, refl}
use mathlib.Core.List.{List, [], ◌∷◌, ◌++◌, map}
use lib.ListN.{replicate}
use lib.Ieee.{Float, binary64, round, of_int, of_bits, to_bits, add, sum, sub, neg, mul, lt, le}
use Rattle.rules.specs.EffectiveLoss.{half, hundredth, key_frames, shares, Lists, both, added_at, loss_of}
use Rattle.rules.specs.EffectiveLoss.{spread_loss}
use Rattle.rules.specs.EffectiveLoss.{unit_loss, unit_losses, effective_loss, is_probability, are_probabilities}
use Rattle.rules.specs.EffectiveLoss.{good_lengths, loss_fault, loss_answer, filled}
use Rattle.rules.proofs.Worked.{Case}
use Rattle.rules.proofs.Samples.{told}

-- ---- bits

abbrev zero : ℕ
zero = 0

abbrev one : ℕ
one = 0x3FF0000000000000

abbrev two : ℕ
two = 0x4000000000000000

abbrev three : ℕ
three = 0x4008000000000000

abbrev four : ℕ
four = 0x4010000000000000

abbrev a_half : ℕ
a_half = 0x3FE0000000000000

-- the binary64 nearest to 0.01, and the next above it
abbrev a-hundredth : ℕ
a-hundredth = 0x3F847AE147AE147B

abbrev above-it : ℕ
above-it = 0x3F847AE147AE147C

abbrev not-a-number : ℕ
not-a-number = 0x7FF8000000000000

abbrev minus-zero : ℕ
minus-zero = 0x8000000000000000

-- ---- calls

floats : List ℕ → List Float
floats = map (of_bits binary64)

bits_of : Lists → List ℕ
bits_of l = map (to_bits binary64) l.key_frame ++ map (to_bits binary64) l.plain

-- both lists of n units, the key-frame list first
spread_in : ℕ → List ℕ → List ℕ → List ℕ
spread_in n losses probabilities = bits_of (effective_loss n losses (floats probabilities))

-- the answer for n units and four lists, and what then stands in two lent lists of m threes
called : ℕ → List ℕ → List ℕ → ℕ → List ℕ
called n losses probabilities m =
    let lent = both (floats (replicate m three)) (floats (replicate m three)) in
    told (loss_answer n losses (floats probabilities) lent) ++ bits_of (filled n losses (floats probabilities) lent)

pub losses : List Case
losses =
    -- nothing is a key frame: the loss reaches the end; k = N has probability 1
    record { rule = spread_in 2 (3 ∷ 0 ∷ []) (zero ∷ zero ∷ []); paper = zero ∷ zero ∷ three ∷ three ∷ [] }
    -- a key-frame loss of 4: one half ends before unit 2, the other reaches the end
    ∷ record {
      rule = spread_in 3 (0 ∷ 4 ∷ 0 ∷ []) (zero ∷ one ∷ a_half ∷ []);
      paper = zero ∷ four ∷ two ∷ zero ∷ zero ∷ zero ∷ [];
    }
    -- one half is no key frame of its own; a certain key frame leaves nothing: the walk stops
    ∷ record {
      rule = spread_in 3 (4 ∷ 0 ∷ 0 ∷ []) (a_half ∷ one ∷ a_half ∷ []);
      paper = zero ∷ zero ∷ zero ∷ four ∷ zero ∷ zero ∷ [];
    }
    -- 0.01 is not taken, and the next number above it is
    ∷ record { rule = spread_in 2 (1 ∷ 0 ∷ []) (zero ∷ a-hundredth ∷ []); paper = zero ∷ zero ∷ one ∷ one ∷ [] }
    ∷ record {
      rule = spread_in 2 (1 ∷ 0 ∷ []) (zero ∷ above-it ∷ []);
      paper = zero ∷ zero ∷ one ∷ 0x3FEFAE147AE147AE ∷ [];
    }
    -- 127/128 leaves 1/128, below 0.01: the walk stops before N, and the last of the 128 goes nowhere
    ∷ record {
      rule = spread_in 2 (128 ∷ 0 ∷ []) (zero ∷ 0x3FEFC00000000000 ∷ []);
      paper = zero ∷ zero ∷ 0x405FC00000000000 ∷ zero ∷ [];
    }
    -- 7, 5, 4 with 0.3, 0.4, 0.7: another order of operations or another rounding gives other bits
    ∷ record {
      rule = spread_in 3 (7 ∷ 5 ∷ 4 ∷ []) (0x3FD3333333333333 ∷ 0x3FD999999999999A ∷ 0x3FE6666666666666 ∷ []);
      paper = zero ∷ zero ∷ four ∷ 0x401C000000000000 ∷ 0x4022666666666667 ∷ 0x4006147AE147AE16 ∷ [];
    }
    -- a call sets both lists to zero first; −0.0 is within 0 to 1
    ∷ record { rule = called 1 (2 ∷ []) (minus-zero ∷ []) 1; paper = 0 ∷ 1 ∷ zero ∷ two ∷ [] }
    -- 22: N 0; N 751; a list not N long, before 23. The lists stand as they were
    ∷ record { rule = called 0 [] [] 0; paper = 22 ∷ 0 ∷ [] }
    ∷ record {
      rule = told (loss_answer 751 (replicate 751 0) (floats (replicate 751 zero)) (both [] []));
      paper = 22 ∷ 0 ∷ [];
    }
    ∷ record { rule = called 1 (2 ∷ []) (not-a-number ∷ []) 2; paper = 22 ∷ 0 ∷ replicate 4 three }
    ∷ record { rule = called 1 (2 ∷ 0 ∷ []) (not-a-number ∷ []) 1; paper = 22 ∷ 0 ∷ replicate 2 three }
    -- 23: a NaN; the least below 0; the next above 1
    ∷ record { rule = called 1 (2 ∷ []) (not-a-number ∷ []) 1; paper = 23 ∷ 0 ∷ replicate 2 three }
    ∷ record { rule = called 1 (2 ∷ []) (0x8000000000000001 ∷ []) 1; paper = 23 ∷ 0 ∷ replicate 2 three }
    ∷ record { rule = called 2 (0 ∷ 0 ∷ []) (zero ∷ 0x3FF0000000000001 ∷ []) 2; paper = 23 ∷ 0 ∷ replicate 4 three }
    ∷ []

-- the theorem: every entry's rule gives what document 02 says
pub lost : map (λ (c : Case). c.rule) losses ≡ map (λ (c : Case). c.paper) losses
unfolding floats bits_of spread_in called losses half hundredth key_frames shares added_at loss_of spread_loss
    unit_loss unit_losses effective_loss is_probability are_probabilities good_lengths loss_fault loss_answer filled
    round of_int of_bits to_bits add sum sub neg mul lt le
lost = refl
