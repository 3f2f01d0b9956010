-- How far a loss spreads (R-8): 001's effective loss for streams without B frames, in document 02's order.
-- Each operation is one of binary64, rounded once.
use Rattle.std.specs.Prelude.{ℕ, suc, ◌+◌, ◌*◌, ◌≤◌, ◌<◌, ◌^◌, ◌≡◌, List, [], ◌∷◌, ◌++◌, map, Bool, true, false, not}
use Rattle.std.specs.Prelude.{◌&&◌, length, take, drop, replicate, T, ltb, eqb, Float, Ok}
use Rattle.std.specs.Float.{binary64}
use Rattle.std.specs.Float.Ieee.{round, add, sub, mul, lt, le, is_nan}
use Rattle.rules.specs.Bytes.{pick, within, All}
use Rattle.rules.specs.Refusals.{Fault, none, fault, unless, ◌or_else◌, answer, Answer}
use Rattle.rules.specs.Index.{float}
use Rattle.rules.specs.Scenes.{span}
use Rattle.rules.specs.declared.Loss.{Loss}
use Rattle.rules.specs.declared.Loss.TheVariants.{KeyFrame, Plain}

-- ---- the numbers of the rule: 0 and 1, and the binary64 nearest to 0.01 and to 0.5

abbrev pub zero64 : Float
zero64 = float 0

abbrev pub one64 : Float
one64 = float 1

unfoldable pub hundredth : Float
hundredth = round binary64 false 1 100

unfoldable pub half : Float
half = round binary64 false 1 2

-- ---- where a loss may end

-- a unit that may be a key frame, and how probably it is one
pub record KeyFrameAt : Type 0 where
  pub place : ℕ
  pub probability : Float

-- of the units from k on: those with probabilities above 0.01, and finally k = N with probability 1
unfoldable pub key_frames : ℕ → List Float → List KeyFrameAt
key_frames k [] = record { place = k; probability = one64 } ∷ []
key_frames k (p ∷ ps) =
    let more = key_frames (suc k) ps in
    pick (lt hundredth p) (record { place = k; probability = p } ∷ more) more

-- the part of a loss that ends before a key frame
pub record Part : Type 0 where
  pub before : ℕ
  pub share : Float

-- the parts of what is left: none if it is below 0.01, otherwise rest × probability and then the parts of
-- rest × (1 − probability)
unfoldable pub shares : Float → List KeyFrameAt → List Part
shares rest [] = []
shares rest (k ∷ ks) =
    let more = shares (mul binary64 rest (sub binary64 one64 k.probability)) ks in
    pick (lt rest hundredth) [] (record { before = k.place; share = mul binary64 rest k.probability } ∷ more)

-- ---- where it is added

pub record Lists : Type 0 where
  pub key_frame : List Float
  pub plain : List Float

abbrev pub both : List Float → List Float → Lists
both key_frame plain = record { key_frame = key_frame; plain = plain }

-- x is added at i to k − 1
unfoldable pub added_at : ℕ → ℕ → Float → List Float → List Float
added_at i k x ys = take i ys ++ map (λ y. add binary64 y x) (span i k ys) ++ drop k ys

-- a key-frame loss where the unit's own probability exceeds 0.5
unfoldable pub loss_of : Float → Float → Loss
loss_of own amount = pick (lt half own) (KeyFrame amount) (Plain amount)

-- a loss goes to the list of its kind
abbrev pub put : ℕ → ℕ → Loss → Lists → Lists
put i k (KeyFrame x) l = both (added_at i k x l.key_frame) l.plain
put i k (Plain x) l = both l.key_frame (added_at i k x l.plain)

-- the parts of unit i's loss, each added at i up to its key frame
unfoldable pub spread_loss : ℕ → ℕ → Float → List Part → Lists → Lists
spread_loss i loss own [] l = l
spread_loss i loss own (p ∷ ps) l =
    let amount = mul binary64 p.share (float loss) in
    spread_loss i loss own ps (put i p.before (loss_of own amount) l)

-- what unit i does to the lists, the units behind it having these probabilities; a loss above 0 has rest = 1
unfoldable pub unit_loss : ℕ → ℕ → Float → List Float → Lists → Lists
unit_loss i loss own later l =
    pick (ltb 0 loss) (spread_loss i loss own (shares one64 (key_frames (suc i) later)) l) l

-- the units from i on, upward
unfoldable pub unit_losses : ℕ → List ℕ → List Float → Lists → Lists
unit_losses i (n ∷ ns) (p ∷ ps) l = unit_losses (suc i) ns ps (unit_loss i n p ps l)
unit_losses i (n ∷ ns) [] l = l
unit_losses i [] ps l = l

-- both lists of n units, which are first set to zero
unfoldable pub effective_loss : ℕ → List ℕ → List Float → Lists
effective_loss n losses probabilities =
    unit_losses 0 losses probabilities (both (replicate n zero64) (replicate n zero64))

-- ---- refusals 22 and 23, and what a call leaves

unfoldable pub is_probability : Float → Bool
is_probability p = le zero64 p && le p one64

unfoldable pub are_probabilities : List Float → Bool
are_probabilities [] = true
are_probabilities (p ∷ ps) = is_probability p && are_probabilities ps

-- N within 1 to 750, and four lists N long
unfoldable pub good_lengths : ℕ → ℕ → ℕ → ℕ → ℕ → Bool
good_lengths n a b c d = within 1 750 n && eqb a n && eqb b n && eqb c n && eqb d n

-- 22: the lengths; then 23: a probability not within 0 to 1
unfoldable pub loss_fault : ℕ → List ℕ → List Float → Lists → Fault
loss_fault n losses probabilities l =
    unless (good_lengths n (length losses) (length probabilities) (length l.key_frame) (length l.plain)) 22
    or_else unless (are_probabilities probabilities) 23

-- the answer is the refusal, or N
unfoldable pub loss_answer : ℕ → List ℕ → List Float → Lists → Answer ℕ
loss_answer n losses probabilities l = answer (loss_fault n losses probabilities l) n

abbrev pub if_filled : Fault → Lists → Lists → Lists
if_filled none new old = new
if_filled (fault k p) new old = old

-- the lists afterwards: filled, or after a refusal as they were
unfoldable pub filled : ℕ → List ℕ → List Float → Lists → Lists
filled n losses probabilities l =
    let new = effective_loss n losses probabilities in
    if_filled (loss_fault n losses probabilities l) new l

-- what a call promises of its answer and of both lists as they are afterwards
pub record Filled (n : ℕ) (losses : List ℕ) (probabilities : List Float) (before : Lists)
    (r : Answer ℕ) (after : Lists) : Type 0 where
  pub answer : r ≡ loss_answer n losses probabilities before
  pub lists : after ≡ filled n losses probabilities before

-- ---- what the laws say

-- no NaN, not negative, and at most 750 × 750 × 2^32, so not infinite either
pub record Sound (x : Float) : Type 0 where
  pub real : T (not (is_nan x))
  pub not_negative : T (not (lt x zero64))
  pub bounded : T (le x (float (750 * 750 * 2 ^ 32)))

-- of losses of 32 bits and at most 750 probabilities, both lists hold nothing else
abbrev pub AlwaysSound : Type 0
AlwaysSound =
    (n : ℕ) (losses : List ℕ) (probabilities : List Float) →
    All (λ (loss : ℕ). loss < 2 ^ 32) losses → length probabilities ≤ 750 → are_probabilities probabilities ≡ true →
    All Sound (effective_loss n losses probabilities).key_frame
    × All Sound (effective_loss n losses probabilities).plain

-- so after every call that is not refused
abbrev pub CallsSound : Type 0
CallsSound =
    (n : ℕ) (losses : List ℕ) (probabilities : List Float) (before : Lists) (m : ℕ) (after : Lists) →
    Filled n losses probabilities before (Ok m) after → All (λ (loss : ℕ). loss < 2 ^ 32) losses →
    All Sound after.key_frame × All Sound after.plain

-- without a loss both lists are zero
abbrev pub WithoutLoss : Type 0
WithoutLoss =
    (n : ℕ) (losses : List ℕ) (probabilities : List Float) → All (λ (loss : ℕ). loss ≡ 0) losses →
    effective_loss n losses probabilities ≡ both (replicate n zero64) (replicate n zero64)

-- from unit i on, each loss added as it is, at its own unit and at all units behind it
unfoldable pub reaching : ℕ → List ℕ → List Float → List Float
reaching i [] ys = ys
reaching i (loss ∷ losses) ys =
    let added = added_at i (i + length (loss ∷ losses)) (float loss) ys in
    reaching (suc i) losses (pick (ltb 0 loss) added ys)

-- with every probability 0 each loss is a plain one, and reaches to the end in full
abbrev pub ToTheEnd : Type 0
ToTheEnd =
    (losses : List ℕ) → All (λ (loss : ℕ). loss < 2 ^ 32) losses →
    let zeros = replicate (length losses) zero64 in
    effective_loss (length losses) losses zeros ≡ both zeros (reaching 0 losses zeros)
