-- The counts that an index is taken of.
use Rattle.std.specs.Prelude.{ℕ, ◌≤◌, ◌<◌, ◌^◌, ◌≡◌, Bool, ◌&&◌, not, T, leb}
use Rattle.std.specs.Float.Ieee.{is_nan}
use Rattle.rules.specs.declared.Index.{Index}
use Rattle.rules.specs.Bytes.{pick}
use Rattle.rules.specs.Index.{float, index_of}

-- there is a picture and a packet, and each count fits 32 bits
pub record Counts (unrepeated pictures packets lost : ℕ) : Type 0 where
  pub some_pictures : 1 ≤ pictures
  pub of_them : unrepeated ≤ pictures
  pub some_packets : 1 ≤ packets
  pub few_pictures : pictures < 2 ^ 32
  pub few_packets : packets < 2 ^ 32
  pub few_lost : lost < 2 ^ 32

-- there is a picture and a packet, and each count is below 2 ^ 52: it and the sum of two are exact as a binary64
pub record ExactCounts (unrepeated pictures packets lost : ℕ) : Type 0 where
  pub some_pictures : 1 ≤ pictures
  pub of_them : unrepeated ≤ pictures
  pub some_packets : 1 ≤ packets
  pub few_pictures : pictures < 2 ^ 52
  pub few_packets : packets < 2 ^ 52
  pub few_lost : lost < 2 ^ 52

-- a sample can have such counts: there is a picture and a packet, and no more unrepeated pictures than pictures
abbrev pub countable : ℕ → ℕ → ℕ → Bool
countable unrepeated pictures packets = leb 1 pictures && leb unrepeated pictures && leb 1 packets

-- what stands for an index where there is none
abbrev pub no_index : Index
no_index = record { ic = float 0; ip = float 0; value = float 0 }

-- none of the three is a NaN
pub record NoNan (i : Index) : Type 0 where
  pub ic : T (not (is_nan i.ic))
  pub ip : T (not (is_nan i.ip))
  pub value : T (not (is_nan i.value))

-- the rule's index of counts that a sample can have, zeros of any others
abbrev pub taken : ℕ → ℕ → ℕ → ℕ → Index
taken unrepeated pictures packets lost =
    pick (countable unrepeated pictures packets) (index_of unrepeated pictures packets lost) no_index

-- that, and never a NaN
pub record IndexFrom (unrepeated pictures packets lost : ℕ) (i : Index) : Type 0 where
  pub is : i ≡ taken unrepeated pictures packets lost
  pub numbers : NoNan i
