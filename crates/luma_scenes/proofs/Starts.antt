-- The scenes one by one are the rule's scenes.
use Prim.Native.Nat.{ℕ, zero, suc, ◌+◌, ◌-◌, ◌≤◌, ◌<◌}
use native.Mathlib.Omega.{arith}
use native.Mathlib.Numerals.{add-one}
use native.Mathlib.Decide.{dec_lt}
use mathlib.Core.Path.{◌≡◌, refl, sym, ap, ◌∙◌}
use mathlib.Core.List.{List, [], ◌∷◌}
use mathlib.Core.Bool.{Bool, true, false}
use lib.ListN.{length, get_or, drop}
use lib.Seq.{drop-cons, drop-drop}
use borrow.Author.Tests.{lt-ltb, le-ltb}
use Rattle.rules.specs.declared.SceneRow.{SceneRow}
use Rattle.rules.specs.Bytes.{pick}
use Rattle.rules.specs.Scenes.{is_start, starts_from, starts, scene_of, scenes_at, scenes_of}
use Rattle.luma_scenes.specs.Next.{starts_after, first_or, next_start, start_at, scenes_from}

-- the starts behind b, of which none is before picture i
abbrev pub Sought : ℕ → List ℕ → ℕ → ℕ → Type 0
Sought d ss b i = starts_after d ss b ≡ starts_from d ss (length ss - i) b i

pub sought-first : (d : ℕ) (ss : List ℕ) (b : ℕ) → Sought d ss b (b + 1)
unfolding starts_after
sought-first d ss b = rw (add-one b)

module _ (d : ℕ) (ss : List ℕ) (b i : ℕ) (sought : Sought d ss b i) where
  one_more : i < length ss → length ss - i ≡ suc (length ss - (i + 1))
  one_more h = omega arith

  pub sought-more : i < length ss → is_start d ss b i ≡ false → Sought d ss b (i + 1)
  unfolding starts_from
  sought-more h e = sought ∙ rw (one_more h, e, add-one i)

  -- picture i is the next start
  pub sought-found : i < length ss → is_start d ss b i ≡ true → starts_after d ss b ≡ i ∷ starts_after d ss i
  unfolding starts_from starts_after
  sought-found h e = sought ∙ rw (one_more h, e, add-one i)

  -- there is none
  pub sought-none : i ≡ length ss → starts_after d ss b ≡ []
  unfolding starts_from
  sought-none e = let z : length ss - i ≡ 0 = omega arith in sought ∙ rw z

-- ---- the start behind a start

-- some starts from picture i on are none, or a start and those behind it
data Follow (d : ℕ) (ss : List ℕ) (i : ℕ) (is : List ℕ) : Type 0 where
  no_more : is ≡ [] → Follow d ss i is
  another : (j : ℕ) → i ≤ j → j < length ss → is ≡ j ∷ starts_after d ss j → Follow d ss i is

module _ (d : ℕ) (ss : List ℕ) where
  from-follow : (n b i : ℕ) → n ≡ length ss - i → Follow d ss i (starts_from d ss n b i)
  unfolding starts_from starts_after
  from-follow zero b i e = no_more refl
  from-follow (suc n) b i e = go (is_start d ss b i) (from-follow n b (suc i) (omega arith))
    where
      later : {is : List ℕ} → Follow d ss (suc i) is → Follow d ss i is
      later (no_more f) = no_more f
      later (another j h k f) = another j (omega arith) k f

      go : (t : Bool) → Follow d ss (suc i) (starts_from d ss n b (suc i)) →
          Follow d ss i (pick t (i ∷ starts_from d ss n i (suc i)) (starts_from d ss n b (suc i)))
      go true f =
          let m : n ≡ length ss - suc i = omega arith in
          another i (omega arith) (omega arith) (rw m)
      go false f = later f

  after-follow : (b : ℕ) → Follow d ss (suc b) (starts_after d ss b)
  unfolding starts_after
  after-follow b = from-follow (length ss - suc b) b (suc b) refl

  module _ (rs : List Bool) (qs : List ℕ) where
    pub scenes-none : (b : ℕ) → length ss ≤ b → scenes_from d ss rs qs b ≡ []
    unfolding scenes_from
    scenes-none b h = rw (le-ltb b (length ss) h)

    scenes-here : (b : ℕ) → b < length ss → scenes_from d ss rs qs b ≡ scenes_at ss rs qs (b ∷ starts_after d ss b)
    unfolding scenes_from
    scenes-here b h = rw (lt-ltb b (length ss) h)

    -- a scene ends before the next start, and the others follow it
    pub scenes-next : (b : ℕ) → b < length ss →
        scenes_from d ss rs qs b
        ≡ scene_of ss rs qs b (next_start d ss b) ∷ scenes_from d ss rs qs (next_start d ss b)
    unfolding next_start scenes_at
    scenes-next b h = scenes-here b h ∙ go (starts_after d ss b) (after-follow b)
      where
        go : (is : List ℕ) → Follow d ss (suc b) is →
            scenes_at ss rs qs (b ∷ is) ≡ scene_of ss rs qs b (first_or (length ss) is)
            ∷ scenes_from d ss rs qs (first_or (length ss) is)
        go is (no_more e) = rw (e, scenes-none (length ss) (omega arith))
        go is (another j k l e) = rw (e, scenes-here j l)

-- from 0 on they are the scenes
pub scenes-first : (d : ℕ) (ss : List ℕ) (rs : List Bool) (qs : List ℕ) →
    scenes_of d ss rs qs ≡ scenes_from d ss rs qs 0
unfolding scenes_of starts scenes_at scenes_from starts_after
scenes-first d [] rs qs = refl
scenes-first d (s ∷ ss) rs qs =
    let e : suc (length ss) - 1 ≡ length ss = omega arith in
    rw (lt-ltb 0 (suc (length ss)) (omega arith), e)

module _ (d : ℕ) (ss : List ℕ) (rs : List Bool) (qs : List ℕ) where
  -- behind the last start there is none
  next-none : (b : ℕ) → length ss ≤ b → next_start d ss b ≡ length ss
  unfolding next_start starts_after starts_from
  next-none b h = let z : length ss - suc b ≡ 0 = omega arith in rw z

  from-rest : (b : ℕ) → drop 1 (scenes_from d ss rs qs b) ≡ scenes_from d ss rs qs (next_start d ss b)
  from-rest b = go (dec_lt b (length ss))
    where
      go : Dec (b < length ss) → drop 1 (scenes_from d ss rs qs b) ≡ scenes_from d ss rs qs (next_start d ss b)
      go (yes h) = rw (scenes-next d ss rs qs b h)
      go (no h) = rw (
        scenes-none d ss rs qs b (omega arith),
        next-none b (omega arith),
        scenes-none d ss rs qs (length ss) (omega arith),
      )

  -- behind j scenes are those from the j-th start on
  pub scenes-rest : (j : ℕ) → drop j (scenes_of d ss rs qs) ≡ scenes_from d ss rs qs (start_at d ss j)
  unfolding start_at
  scenes-rest zero = scenes-first d ss rs qs
  scenes-rest (suc j) =
      ap (λ (k : ℕ). drop k (scenes_of d ss rs qs)) (sym (add-one j))
      ∙ sym (drop-drop 1 j (scenes_of d ss rs qs))
      ∙ ap (drop 1) (scenes-rest j)
      ∙ from-rest (start_at d ss j)

  -- the j-th scene goes from the j-th start to the next
  pub scene-at : (j : ℕ) (e : SceneRow) → j < length (scenes_of d ss rs qs) →
      get_or (scenes_of d ss rs qs) j e ≡ scene_of ss rs qs (start_at d ss j) (start_at d ss (suc j))
  unfolding start_at
  scene-at j e h = go (dec_lt (start_at d ss j) (length ss))
    where
      rows : get_or (scenes_of d ss rs qs) j e ∷ drop (suc j) (scenes_of d ss rs qs)
          ≡ scenes_from d ss rs qs (start_at d ss j)
      rows = sym (drop-cons (scenes_of d ss rs qs) j e h) ∙ scenes-rest j

      go : Dec (start_at d ss j < length ss) →
          get_or (scenes_of d ss rs qs) j e ≡ scene_of ss rs qs (start_at d ss j) (next_start d ss (start_at d ss j))
      go (yes k) = ap (λ (l : List SceneRow). get_or l 0 e) (rows ∙ scenes-next d ss rs qs (start_at d ss j) k)
      go (no k) =
          let z = ap length (rows ∙ scenes-none d ss rs qs (start_at d ss j) (omega arith)) in absurd (omega arith)
