-- Of every call that is not refused: no NaN, nothing negative and nothing infinite in either list; zeros alone where
-- nothing is lost; whole losses where every probability is 0.
use Prim.Native.Nat.{ℕ, zero, suc, ◌+◌, ◌-◌, ◌*◌, ◌≤◌, ◌<◌, ◌^◌}
use native.Mathlib.Omega.{arith}
use native.Mathlib.Nat.{le_trans, mul-le-mul_right, zero-lt-suc}
use mathlib.Core.Path.{◌≡◌, refl, sym, ◌∙◌}
use mathlib.Core.List.{List, [], ◌∷◌, map}
use mathlib.Core.Bool.{Bool, true, false, true≢false}
use lib.IntN.{pos}
use lib.ListN.{length, replicate}
use lib.Dec.{T, ltb, lit≤}
use lib.Ieee.{Float, nan, inf, fin, binary64, up, down, round, of_int, add, sub, mul, neg, sum, lt, le, eq, is_nan}
use lib.Ieee.Fits.{down_pos}
use lib.Ieee.Scale.{round_same}
use borrow.Author.Tests.{le-ltb}
use Rattle.rules.specs.Bytes.{pick, All, empty, and}
use Rattle.rules.specs.Refusals.{unless, ◌or_else◌, answer}
use Rattle.std.specs.Prelude.{Ok}
use Rattle.rules.specs.Index.{float}
use Rattle.rules.proofs.Laws.Lists.{all_drop, all_take, both as ands, all_append}
use Rattle.index.proofs.Bound.{AtMost, at_most, Is, is, finite, whole, under, small, upper, round-at-most}
use Rattle.index.proofs.Bound.{add-at-most, mul-at-most}
use Rattle.rules.specs.declared.Loss.TheVariants.{KeyFrame, Plain}
use Rattle.rules.specs.EffectiveLoss.{zero64, one64, hundredth, half, KeyFrameAt, key_frames, Part, shares, Lists}
use Rattle.rules.specs.EffectiveLoss.{both, added_at, loss_of, put, spread_loss, unit_loss, unit_losses}
use Rattle.rules.specs.EffectiveLoss.{is_probability, are_probabilities, effective_loss, good_lengths, loss_fault}
use Rattle.rules.specs.EffectiveLoss.{loss_answer, filled, Sound, AlwaysSound, CallsSound, WithoutLoss, reaching}
use Rattle.rules.specs.EffectiveLoss.{ToTheEnd}
use Rattle.loss.proofs.Steps.{lengths-are}

-- ---- without a loss

nothing : (i : ℕ) (ns : List ℕ) (ps : List Float) (l : Lists) → All (λ (loss : ℕ). loss ≡ 0) ns →
    unit_losses i ns ps l ≡ l
unfolding unit_losses unit_loss
nothing i [] ps l h = refl
nothing i (n ∷ ns) [] l h = refl
nothing i (n ∷ ns) (p ∷ ps) l (and z hs) = rw z (nothing (suc i) ns ps l hs)

pub without-loss : WithoutLoss
unfolding effective_loss
without-loss n ns ps h = nothing 0 ns ps _ h

-- ---- operations

weaker : {x : Float} {i j : ℕ} → i ≤ j → AtMost x i → AtMost x j
weaker h (at_most {e = e} p) = at_most (le_trans p (mul-le-mul_right (down e) h))

sound : {x : Float} → AtMost x (750 * 750 * 2 ^ 32) → Sound x
unfolding is_nan lt of_int
sound (at_most {m = m} {e = e} p) =
    record {
      real = tt;
      not_negative = rw (le-ltb (m * up e * 1) (0 * down e) (omega arith)) tt;
      bounded = upper (750 * 750 * 2 ^ 32) (lit≤ tt) (at_most p);
    }

one_less : {p : Float} → AtMost p 1 → AtMost (sub binary64 one64 p) 1
unfolding sub neg add sum of_int
one_less (at_most {m = m} {e = e} h) =
    rw (le-ltb (1 * 1 * down e) (m * up e * 1) (omega arith))
    (round-at-most (1 * 1 * down e - m * up e * 1) (1 * down e) 1 (omega (arith, down_pos e)) (lit≤ tt) (omega arith))

-- ---- a probability that may be a key frame's

holds : (b : Bool) → b ≡ true → T b
holds true e = tt
holds false e = absurd (true≢false (sym e))

likely : (p : Float) → is_probability p ≡ true → lt hundredth p ≡ true → AtMost p 1
unfolding is_probability lt le eq hundredth round of_int
likely nan h t = absurd (true≢false (sym t))
likely (inf true) h t = absurd (true≢false (sym t))
likely (inf false) h t = absurd (true≢false (sym h))
likely (fin true m e) h t = absurd (true≢false (sym t))
likely (fin false m e) h t =
    under finite (whole 1 (lit≤ tt)) (holds _ (ands (le zero64 (fin false m e)) (le (fin false m e) one64) h).1)

-- ---- key frames, parts, lists

abbrev Likely : List KeyFrameAt → Type 0
Likely = All (λ (key : KeyFrameAt). AtMost key.probability 1)

likely-keys : (k : ℕ) (ps : List Float) → are_probabilities ps ≡ true → Likely (key_frames k ps)
unfolding key_frames are_probabilities of_int
likely-keys k [] h = and (small (whole 1 (lit≤ tt))) empty
likely-keys k (p ∷ ps) h =
    let each = ands (is_probability p) (are_probabilities ps) h in
    go (lt hundredth p) (λ t. likely p each.0 t) (likely-keys (suc k) ps each.1)
  where
    go : (b : Bool) → (b ≡ true → AtMost p 1) → Likely (key_frames (suc k) ps) →
        Likely (pick b (record { place = k; probability = p } ∷ key_frames (suc k) ps) (key_frames (suc k) ps))
    go true t more = and (t refl) more
    go false t more = more

small-parts : (rest : Float) {ks : List KeyFrameAt} → AtMost rest 1 → Likely ks →
    All (λ (p : Part). AtMost p.share 1) (shares rest ks)
unfolding shares
small-parts rest r empty = empty
small-parts rest r (and {x = k} {xs = ks} p more) =
    go (lt rest hundredth) (and (mul-at-most r p (lit≤ tt))
    (small-parts (mul binary64 rest (sub binary64 one64 k.probability)) (mul-at-most r (one_less p) (lit≤ tt))
    more))
  where
    go : (b : Bool) {ps : List Part} → All (λ (p : Part). AtMost p.share 1) ps →
        All (λ (p : Part). AtMost p.share 1) (pick b [] ps)
    go true h = empty
    go false h = h

few-keys : (k : ℕ) (ps : List Float) → length (key_frames k ps) ≤ suc (length ps)
unfolding key_frames
few-keys k [] = omega arith
few-keys k (p ∷ ps) = go (lt hundredth p) (few-keys (suc k) ps)
  where
    go : (b : Bool) → length (key_frames (suc k) ps) ≤ suc (length ps) →
        length (pick b (record { place = k; probability = p } ∷ key_frames (suc k) ps) (key_frames (suc k) ps)) ≤ suc
        (suc (length ps))
    go true h = omega arith
    go false h = omega arith

few-parts : (rest : Float) (ks : List KeyFrameAt) → length (shares rest ks) ≤ length ks
unfolding shares
few-parts rest [] = omega arith
few-parts rest (k ∷ ks) =
    go (lt rest hundredth) (shares (mul binary64 rest (sub binary64 one64 k.probability)) ks)
    (few-parts (mul binary64 rest (sub binary64 one64 k.probability)) ks)
  where
    go : (b : Bool) (ps : List Part) → length ps ≤ length ks →
        length (pick b [] (record { before = k.place; share = mul binary64 rest k.probability } ∷ ps)) ≤ suc
        (length ks)
    go true ps h = omega arith
    go false ps h = omega arith

-- every element at most b
abbrev Under : ℕ → List Float → Type 0
Under b ys = All (λ (y : Float). AtMost y b) ys

all_weaker : {b c : ℕ} {ys : List Float} → b ≤ c → Under b ys → Under c ys
all_weaker h empty = empty
all_weaker h (and p hs) = and (weaker h p) (all_weaker h hs)

all-sums : {x : Float} {a b : ℕ} {ys : List Float} → b + a ≤ 2 ^ 53 → AtMost x a → Under b ys →
    Under (b + a) (map (λ y. add binary64 y x) ys)
all-sums room h empty = empty
all-sums room h (and p hs) = and (add-at-most p h room) (all-sums room h hs)

under-added : (i k : ℕ) {x : Float} {a b : ℕ} {ys : List Float} → b + a ≤ 2 ^ 53 → AtMost x a → Under b ys →
    Under (b + a) (added_at i k x ys)
unfolding added_at
under-added i k room h hs =
    all_append (all_append (all_weaker (omega arith) (all_take i hs))
    (all-sums room h (all_take (k - i) (all_drop i hs)))) (all_weaker (omega arith) (all_drop k hs))

record Both (b : ℕ) (l : Lists) : Type 0 where
  keys : Under b l.key_frame
  plains : Under b l.plain

both-weaker : {b c : ℕ} {l : Lists} → b ≤ c → Both b l → Both c l
both-weaker h u = record { keys = all_weaker h u.keys; plains = all_weaker h u.plains }

put_both : (i k : ℕ) (own x : Float) (l : Lists) {a b : ℕ} → b + a ≤ 2 ^ 53 → AtMost x a → Both b l →
    Both (b + a) (put i k (loss_of own x) l)
unfolding loss_of
put_both i k own x l {a} {b} room h u = go (lt half own)
  where
    go : (t : Bool) → Both (b + a) (put i k (pick t (KeyFrame x) (Plain x)) l)
    go true = record { keys = under-added i k room h u.keys; plains = all_weaker (omega arith) u.plains }
    go false = record { keys = all_weaker (omega arith) u.keys; plains = under-added i k room h u.plains }

-- a part adds less than 2^32 to an element
spread-both : (i loss : ℕ) (own : Float) {ps : List Part} (l : Lists) (b c : ℕ) → loss < 2 ^ 32 →
    All (λ (p : Part). AtMost p.share 1) ps →
    b + length ps * 2 ^ 32 ≤ c → c ≤ 2 ^ 53 → Both b l → Both c (spread_loss i loss own ps l)
unfolding spread_loss of_int
spread-both i loss own l b c few empty room most u = both-weaker (omega arith) u
spread-both i loss own l b c few (and {x = p} {xs = ps} h hs) room most u =
    let amount : AtMost (mul binary64 p.share (float loss)) (2 ^ 32) =
    weaker (omega arith) (mul-at-most h (small (whole loss (omega arith))) (omega arith)) in
    let fits : b + 2 ^ 32 ≤ 2 ^ 53 = omega arith in
    spread-both i loss own (put i p.before (loss_of own (mul binary64 p.share (float loss))) l) (b + 2 ^ 32) c
    few hs (omega arith) most
    (put_both i p.before own (mul binary64 p.share (float loss)) l fits amount u)

-- a unit has no more parts than units and one behind it
unit-both : (i loss : ℕ) (own : Float) (later : List Float) (l : Lists) (b c : ℕ) → loss < 2 ^ 32 →
    are_probabilities later ≡ true →
    b + suc (length later) * 2 ^ 32 ≤ c → c ≤ 2 ^ 53 → Both b l → Both c (unit_loss i loss own later l)
unfolding unit_loss of_int
unit-both i loss own later l b c few h room most u =
    let ks = key_frames (suc i) later in
    let most-parts = few-parts one64 ks in
    let most-keys = few-keys (suc i) later in
    go (ltb 0 loss) (spread-both i loss own l b c few
    (small-parts one64 (small (whole 1 (lit≤ tt))) (likely-keys (suc i) later h)) (omega arith) most u)
  where
    go : (t : Bool) {m : Lists} → Both c m → Both c (pick t m l)
    go true m = m
    go false m = both-weaker (omega arith) u

-- and there are at most 750 units
units-both : (i : ℕ) (ns : List ℕ) (ps : List Float) (l : Lists) (b c : ℕ) → All (λ (loss : ℕ). loss < 2 ^ 32) ns →
    length ps ≤ 750 → are_probabilities ps ≡ true →
    b + length ps * (750 * 2 ^ 32) ≤ c → c ≤ 2 ^ 53 → Both b l → Both c (unit_losses i ns ps l)
unfolding unit_losses are_probabilities
units-both i [] ps l b c few short h room most u = both-weaker (omega arith) u
units-both i (n ∷ ns) [] l b c few short h room most u = both-weaker (omega arith) u
units-both i (n ∷ ns) (p ∷ ps) l b c (and f few) short h room most u =
    let later = (ands (is_probability p) (are_probabilities ps) h).1 in
    let one : Both (b + 750 * 2 ^ 32) (unit_loss i n p ps l) =
    unit-both i n p ps l b (b + 750 * 2 ^ 32) f later (omega arith) (omega arith) u in
    units-both (suc i) ns ps (unit_loss i n p ps l) (b + 750 * 2 ^ 32) c few (omega arith) later
    (omega arith) most one

zeros : (n : ℕ) → Under 0 (replicate n zero64)
unfolding of_int
zeros zero = empty
zeros (suc n) = and (small (whole 0 (lit≤ tt))) (zeros n)

all_sound : {xs : List Float} → Under (750 * 750 * 2 ^ 32) xs → All Sound xs
all_sound empty = empty
all_sound (and h hs) = and (sound h) (all_sound hs)

pub always-sound : AlwaysSound
unfolding effective_loss
always-sound n ns ps few short h =
    let u = units-both 0 ns ps _ 0 (750 * 750 * 2 ^ 32) few short h (omega arith) (lit≤ tt)
    (record { keys = zeros n; plains = zeros n }) in
    (all_sound u.keys, all_sound u.plains)

-- ---- calls

not-refused : (g p : Bool) (n m : ℕ) → Ok m ≡ answer (unless g 22 or_else unless p 23) n → (g ≡ true) × (p ≡ true)
not-refused true true n m e = (refl, refl)
not-refused true false n m e = absurd (let z : ◌≡◌ {A = ℕ} 0 1 = cc in omega arith)
not-refused false p n m e = absurd (let z : ◌≡◌ {A = ℕ} 0 1 = cc in omega arith)

pub calls-sound : CallsSound
unfolding loss_answer loss_fault filled
calls-sound n ns ps before m after h few =
    let t = not-refused (good_lengths n (length ns) (length ps) (length before.key_frame) (length before.plain))
    (are_probabilities ps) n m h.answer in
    let e : after ≡ effective_loss n ns ps = h.lists ∙ rw (t.0, t.1) in
    let long = lengths-are n (length ns) (length ps) (length before.key_frame) (length before.plain) t.0 in
    rw e (always-sound n ns ps few (omega (arith, long.1, long.4)) t.1)

-- ---- every probability 0

zero-passed : lt hundredth zero64 ≡ false
unfolding lt hundredth round of_int
zero-passed = refl

zero-plain : lt half zero64 ≡ false
unfolding lt half round of_int
zero-plain = refl

one_left : lt one64 hundredth ≡ false
unfolding lt hundredth round of_int
one_left = refl

one-all : mul binary64 one64 one64 ≡ one64
unfolding mul round of_int
one-all = refl

one-is : one64 ≡ fin false 1 (pos 0)
unfolding round of_int
one-is = refl

same-times : {x : Float} {n : ℕ} → Is x n 1 → mul binary64 (fin false 1 (pos 0)) x ≡ round binary64 false n 1
unfolding mul
same-times {n = n} (is {m = m} {e = e} p) =
    round_same binary64 false (1 * 1 * (m * up e)) (1 * down e) n 1 (omega (arith, down_pos e)) (zero-lt-suc 0)
    (omega (arith, p))

-- a loss of 32 bits times 1 is itself
times-one : (n : ℕ) → n < 2 ^ 32 → mul binary64 one64 (float n) ≡ float n
unfolding of_int
times-one n h = rw one-is (same-times (whole n (omega arith)))

none_before : (k m : ℕ) → key_frames k (replicate m zero64) ≡ record { place = k + m; probability = one64 } ∷ []
unfolding key_frames
none_before k zero = let e : k + 0 ≡ k = omega arith in rw e
none_before k (suc m) = let e : k + suc m ≡ suc k + m = omega arith in rw (zero-passed, e) (none_before (suc k) m)

reaches : (i n m : ℕ) (k l : List Float) → n < 2 ^ 32 →
    unit_loss i n zero64 (replicate m zero64) (both k l)
    ≡ both k (pick (ltb 0 n) (added_at i (i + suc m) (float n) l) l)
unfolding unit_loss spread_loss shares loss_of
reaches i n m k l h =
    let e : suc i + m ≡ i + suc m = omega arith in
    rw (none_before (suc i) m, one_left, one-all, zero-plain, times-one n h, e) (go (ltb 0 n))
  where
    go : (b : Bool) → pick b (both k (added_at i (i + suc m) (float n) l)) (both k l)
        ≡ both k (pick b (added_at i (i + suc m) (float n) l) l)
    go true = refl
    go false = refl

all-reach : (i : ℕ) (ns : List ℕ) (k l : List Float) → All (λ (loss : ℕ). loss < 2 ^ 32) ns →
    unit_losses i ns (replicate (length ns) zero64) (both k l) ≡ both k (reaching i ns l)
unfolding unit_losses reaching
all-reach i [] k l h = refl
all-reach i (n ∷ ns) k l (and h hs) =
    rw (reaches i n (length ns) k l h)
    (all-reach (suc i) ns k (pick (ltb 0 n) (added_at i (i + suc (length ns)) (float n) l) l) hs)

pub to_the_end : ToTheEnd
unfolding effective_loss
to_the_end ns h = all-reach 0 ns (replicate (length ns) zero64) (replicate (length ns) zero64) h
