-- One step of each walk: an element added to; a key frame taken or passed; a unit done.
use Prim.Native.Nat.{ℕ, zero, suc, ◌+◌, ◌-◌, ◌≤◌, ◌<◌}
use native.Mathlib.Omega.{arith}
use native.Mathlib.Nat.{eq-or-lt_of_le}
use native.Mathlib.Numerals.{add-one}
use mathlib.Core.Path.{◌≡◌, refl, sym, ap, ◌∙◌}
use mathlib.Core.List.{List, [], ◌∷◌, ◌++◌, map, map-append, append_assoc, append-nil}
use mathlib.Core.Bool.{true, false, true≢false}
use mathlib.Core.Logic.{⊎_elim}
use lib.ListN.{length, take, drop, get_or, set, length-take, length-map}
use lib.ListN.{drop_of_length-le, get_or-eq_default}
use lib.Seq.{take-suc, drop-cons, get_or_at, set_at, append_snoc, take_all, drop-drop}
use borrow.Rule.Slice.PartMut.{put_mid}
use lib.Dec.{leb}
use lib.Ieee.{Float, nan, binary64, round, of_bits, of_int, add, sub, mul, lt}
use borrow.Author.Tests.{le-leb, lt-leb, lt-ltb, le-ltb}
use Rattle.rules.specs.Bytes.{pick}
use Rattle.rules.specs.Index.{float}
use Rattle.rules.specs.Scenes.{span}
use Rattle.rules.specs.declared.Loss.{Loss}
use Rattle.rules.specs.EffectiveLoss.{one64, hundredth, half, KeyFrameAt, key_frames, shares, Lists, both}
use Rattle.rules.specs.EffectiveLoss.{added_at, loss_of, put, spread_loss, unit_loss, unit_losses}

-- ---- the code's numbers

abbrev pub code_one : Float
code_one = of_bits binary64 0x3FF0000000000000

abbrev pub code-hundredth : Float
code-hundredth = of_bits binary64 0x3F847AE147AE147B

pub one-is : code_one ≡ one64
unfolding of_bits of_int
one-is = refl

hundredth-is : code-hundredth ≡ hundredth
unfolding of_bits hundredth round
hundredth-is = refl

pub half_is : of_bits binary64 0x3FE0000000000000 ≡ half
unfolding of_bits half round
half_is = refl

-- ---- x added to the first j of some elements

module _ (f : Float → Float) (ys : List Float) (j : ℕ) where
  pub mapped_more : j < length ys → set (map f (take j ys) ++ drop j ys) j
      (f (get_or (map f (take j ys) ++ drop j ys) j nan)) ≡ map f (take (j + 1) ys) ++ drop (j + 1) ys
  mapped_more h =
      let front = map f (take j ys) in
      let long : length front ≡ j = simp (length-map, length-take) (omega arith) in
      let y = get_or ys j nan in
      let rest = drop (suc j) ys in
      rw (
        drop-cons ys j nan h,
        get_or_at front y rest nan j long,
        set_at front y rest (f y) j long,
        add-one,
        take-suc ys j nan h,
        map-append,
      )
      (sym (append_snoc front (f y) rest))

  pub mapped_all : length ys ≤ j → map f (take j ys) ++ drop j ys ≡ map f ys
  mapped_all h = rw (take_all j ys h, drop_of_length-le ys {i = j} h) (append-nil (map f ys))

pub added_part : (i k : ℕ) (x : Float) (ys : List Float) → i ≤ k →
    put_mid i (k - i) ys (map (λ y. add binary64 y x) (span i k ys)) ≡ added_at i k x ys
unfolding added_at
added_part i k x ys h =
    let e : i + (k - i) ≡ k = omega arith in
    rw (drop-drop (k - i) i ys, e) (sym (append_assoc (take i ys) (map (λ y. add binary64 y x) (span i k ys)) _))

pub both-eq : {a b x y : List Float} → a ≡ x → b ≡ y → both a b ≡ both x y
both-eq p q = cc

-- ---- the key frames that are left, from k up to N

abbrev pub keys_from : ℕ → ℕ → List Float → List KeyFrameAt
keys_from n k ps = pick (leb k n) (key_frames k (drop k ps)) []

pub default : (ps : List Float) (k : ℕ) (d e : Float) → k < length ps → get_or ps k d ≡ get_or ps k e
default [] k d e h = absurd (omega arith)
default (p ∷ ps) zero d e h = refl
default (p ∷ ps) (suc k) d e h = default ps k d e (omega arith)

one-above : lt hundredth one64 ≡ true
unfolding lt hundredth round of_int
one-above = refl

module _ (n k : ℕ) (ps : List Float) (long : length ps ≡ n) where
  -- one is taken: a unit, or N
  unit-taken : k < n → lt hundredth (get_or ps k one64) ≡ true →
      keys_from n k ps ≡ record { place = k; probability = get_or ps k one64 } ∷ keys_from n (k + 1) ps
  unfolding key_frames
  unit-taken h t =
      let inside : k < length ps = omega arith in
      rw (le-leb k n (omega arith), drop-cons ps k one64 inside, t, le-leb (k + 1) n (omega arith), add-one)

  end-taken : k ≡ n → keys_from n k ps
      ≡ record { place = k; probability = get_or ps k one64 } ∷ keys_from n (k + 1) ps
  unfolding key_frames
  end-taken e =
      let past : length ps ≤ k = omega arith in
      rw (
        le-leb k n (omega arith),
        drop_of_length-le ps {i = k} past,
        get_or-eq_default ps one64 {n = k} past,
        lt-leb (k + 1) n (omega arith),
      )

  key-taken : k ≤ n → lt hundredth (get_or ps k one64) ≡ true →
      keys_from n k ps ≡ record { place = k; probability = get_or ps k one64 } ∷ keys_from n (k + 1) ps
  key-taken h t = ⊎_elim end-taken (λ l. unit-taken l t) (eq-or-lt_of_le h)

  -- one is passed, which is not N
  unit-passed : k < n → lt hundredth (get_or ps k one64) ≡ false → keys_from n k ps ≡ keys_from n (k + 1) ps
  unfolding key_frames
  unit-passed h t =
      let inside : k < length ps = omega arith in
      rw (le-leb k n (omega arith), drop-cons ps k one64 inside, t, le-leb (k + 1) n (omega arith), add-one)

  end-not-passed : k ≡ n → lt hundredth (get_or ps k one64) ≡ false → ⊥
  end-not-passed e t =
      let past : length ps ≤ k = omega arith in
      true≢false (sym one-above ∙ ap (lt hundredth) (sym (get_or-eq_default ps one64 {n = k} past)) ∙ t)

  key-passed : k ≤ n → lt hundredth (get_or ps k one64) ≡ false → keys_from n k ps ≡ keys_from n (k + 1) ps
  key-passed h t = ⊎_elim (λ e. absurd (end-not-passed e t)) (λ l. unit-passed l t) (eq-or-lt_of_le h)

-- ---- what is left of unit i's loss, from place k on

abbrev pub left : ℕ → List Float → ℕ → ℕ → Float → ℕ → Float → Lists → Lists
left n ps i loss own k rest l = spread_loss i loss own (shares rest (keys_from n k ps)) l

-- p is the probability at k
module _ (n k : ℕ) (ps : List Float) (p : Float) (long : length ps ≡ n) (k≤n : k ≤ n) (at : p ≡ get_or ps k one64)
    (i loss : ℕ) (own rest : Float) (l : Lists) where
  -- its part is added, and the rest goes on
  pub taken : {q : Loss} {more : Lists} {r : Float} → lt code-hundredth p ≡ true → lt rest code-hundredth ≡ false →
      q ≡ loss_of own (mul binary64 (mul binary64 rest p) (float loss)) →
      more ≡ put i k q l →
      r ≡ mul binary64 rest (sub binary64 code_one p) →
      left n ps i loss own k rest l ≡ left n ps i loss own (k + 1) r more
  unfolding spread_loss shares
  taken t s u v w =
      rw (key-taken n k ps long k≤n (rw (hundredth-is, at) at t), rw hundredth-is at s, v, u, w, one-is, at)

  -- too little is left
  pub stopped : lt code-hundredth p ≡ true → lt rest code-hundredth ≡ true → left n ps i loss own k rest l ≡ l
  unfolding spread_loss shares
  stopped t s = rw (key-taken n k ps long k≤n (rw (hundredth-is, at) at t), rw hundredth-is at s)

  -- no key frame
  pub passed : lt code-hundredth p ≡ false → left n ps i loss own k rest l ≡ left n ps i loss own (k + 1) rest l
  passed t = rw (key-passed n k ps long k≤n (rw (hundredth-is, at) at t))

pub ended : (n k : ℕ) (ps : List Float) (i loss : ℕ) (own rest : Float) (l : Lists) → n < k →
    left n ps i loss own k rest l ≡ l
unfolding spread_loss shares
ended n k ps i loss own rest l h = rw (lt-leb k n h)

-- ---- a unit

module _ (ns : List ℕ) (ps : List Float) (i : ℕ) (l : Lists) (h : i < length ns) (long : length ps ≡ length ns) where
  unit-step : unit_losses i (drop i ns) (drop i ps) l
      ≡ unit_losses (i + 1) (drop (i + 1) ns) (drop (i + 1) ps)
      (unit_loss i (get_or ns i 0) (get_or ps i nan) (drop (i + 1) ps) l)
  unfolding unit_losses
  unit-step = let h' : i < length ps = omega arith in rw (drop-cons ns i 0 h, drop-cons ps i nan h', add-one)

  -- its loss is spread, from the next unit on
  pub unit-spread : (m : Lists) → 0 < get_or ns i 0 →
      m ≡ left (length ns) ps i (get_or ns i 0) (get_or ps i nan) (i + 1) code_one l →
      unit_losses (i + 1) (drop (i + 1) ns) (drop (i + 1) ps) m ≡ unit_losses i (drop i ns) (drop i ps) l
  unfolding unit_loss
  unit-spread m some e =
      rw (e, one-is, unit-step, lt-ltb 0 (get_or ns i 0) some, le-leb (i + 1) (length ns) (omega arith), add-one)

  -- it has none
  pub unit-none : get_or ns i 0 ≤ 0 →
      unit_losses (i + 1) (drop (i + 1) ns) (drop (i + 1) ps) l ≡ unit_losses i (drop i ns) (drop i ps) l
  unfolding unit_loss
  unit-none none = rw (unit-step, le-ltb 0 (get_or ns i 0) none)

-- all units are done
pub units-done : (ns : List ℕ) (ps : List Float) (i : ℕ) (l : Lists) → length ns ≤ i →
    unit_losses i (drop i ns) (drop i ps) l ≡ l
unfolding unit_losses
units-done ns ps i l h = rw (drop_of_length-le ns {i = i} h)
