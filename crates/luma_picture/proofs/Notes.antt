-- What the words hold of one picture more. No code.
use Rattle.std.proofs.Common.{◌≡◌, ℕ, ◌+◌, ◌-◌, ◌*◌, ◌/◌, ◌%◌, ◌^◌, ◌<◌, ◌≤◌, Bool, List, [], ◌∷◌, ◌++◌, map, length}
use Rattle.std.proofs.Common.{get_or, drop, set, sym, ap, ◌∙◌, mul_comm, lt_of_not-le, arith, length-append}
use Rattle.std.proofs.Common.{length-set, get_or-set_other, get_or-set_same, eq-eqb, ne_eqb}
use native.Mathlib.Decide.{dec_le, ℕ_discrete}
use lib.ListN.{length-map}
use Rattle.rules.specs.declared.Opening.{Opening}
use Rattle.rules.specs.Bytes.{pick, parts, Bytes}
use Rattle.rules.specs.Editions.{rounds_to_nearest}
use Rattle.rules.specs.Opening.{columns, lines}
use Rattle.rules.specs.Pictures.{picture_size, pixels}
use Rattle.rules.specs.Histograms.{histograms}
use Rattle.rules.specs.Cuts.{at, cut_score}
use Rattle.rules.specs.Changes.{change, repeats, changes}
use Rattle.luma_laws.proofs.Pictures.{bytes_take, bytes_drop, pixels-small, pixels-length}
use Rattle.luma_laws.proofs.Tables.{get_or-mapped, parts-length, part_at}
use Rattle.luma_laws.proofs.Moves.{squared-most}
use Rattle.luma_laws.specs.Past.{previous, next_change, next_repeat, next_score, map_word}
use Rattle.luma_laws.proofs.Past.{get_or-last, get_or-other, map-append, score-other, score-next, next-some}
use Rattle.luma_laws.proofs.Past.{next-none}
use Rattle.luma_laws.proofs.Past.{repeats-more, changes-more, length-repeats, length-changes, word_more, word-other}
use Rattle.luma_laws.proofs.Past.{word_small}
use Rattle.luma_changes.specs.Changes.{spread_of}
use Rattle.luma_cuts.specs.Counts.{bins_at, tiles_at}
use Rattle.luma_tiles.specs.Bins.{Counts}
use Rattle.luma_tiles.proofs.Whole.{counts-are}
use Rattle.luma_changes.specs.Figures.{Figures}
use Rattle.luma_changes.proofs.Whole.{Exact, exact, spread-of, same_of}
use Rattle.luma_state.specs.declared.Grid.{Grid}
use Rattle.luma_state.specs.declared.Progress.{Progress}
use Rattle.luma_picture.specs.declared.Settled.{Settled}
use Rattle.luma_state.specs.State.{slot, moves_in, kept_of, Words}
use Rattle.luma_picture.specs.Contract.{again_of, ChangeOf, ScoreOf, bit_of, with_bit, noted}

-- ---- the whole pictures

pub record Whole (o : Opening) (px : List ℕ) : Type 0 where
  pub small : Bytes px
  pub size : length px ≡ columns o * lines o

pub each-px : (o : Opening) (pxs : List (List ℕ)) (whole : List ℕ) →
    pxs ≡ map (pixels o) (parts (length pxs) (picture_size o) whole) → Bytes whole → (j : ℕ) →
    j < length pxs → Whole o (get_or pxs j [])
each-px o pxs whole e small j h =
    let ps = parts (length pxs) (picture_size o) whole in
    let n : length ps ≡ length pxs = parts-length (length pxs) (picture_size o) whole in
    let is : get_or pxs j [] ≡ pixels o (get_or ps j []) =
    ap (λ (x : List (List ℕ)). get_or x j []) e ∙ get_or-mapped (pixels o) ps j [] [] (omega arith) in
    let bytes : Bytes (get_or ps j []) = rw (part_at (length pxs) (picture_size o) j whole h)
    (bytes_take (picture_size o) (drop (j * picture_size o) whole) (bytes_drop (j * picture_size o) whole small)) in
    rw is (record { small = pixels-small o (get_or ps j []) bytes; size = pixels-length o (get_or ps j []) })

-- ---- the cut score

pub tiles-are : (o : Opening) (base : ℕ) (px : List ℕ) {counts : List ℕ} →
    Counts (columns o) (lines o) base px counts → length px < 2 ^ 32 →
    ((i : ℕ) → get_or counts i 0 < 2 ^ 32) → tiles_at counts base ≡ histograms o px
unfolding tiles_at bins_at
tiles-are o base px c few small = counts-are o base px c few small

module _ (o : Opening) (pxs : List (List ℕ)) (px : List ℕ) {bins : List ℕ} {i kept : ℕ} {r : Settled}
    (s : ScoreOf bins i kept r) (number : i ≡ length pxs)
    (ring : (j : ℕ) → j < length pxs → length pxs ≤ j + 4 →
    Counts (columns o) (lines o) (slot j) (get_or pxs j []) bins)
    (here : Counts (columns o) (lines o) (slot i) px bins)
    (few : (j : ℕ) → j < length pxs → length (get_or pxs j []) < 2 ^ 32) (last : length px < 2 ^ 32) where
  long : length (map (histograms o) pxs) ≡ i
  long = length-map pxs (histograms o) ∙ sym number

  tile : (j : ℕ) → j < i → i ≤ j + 4 → tiles_at bins (slot j) ≡ at (map (histograms o) pxs) j
  tile j h k = tiles-are o (slot j) (get_or pxs j []) (ring j (omega arith) (omega arith)) (few j (omega arith))
      s.small
      ∙ sym (get_or-mapped (histograms o) pxs j [] [] (omega arith))

  own : tiles_at bins (slot i) ≡ histograms o px
  own = tiles-are o (slot i) px here last s.small

  pub score-is : (4 ≤ length pxs → kept ≡ kept_of (map (histograms o) pxs)) →
      r.score ≡ next_score (map (histograms o) pxs) (histograms o px)
  unfolding kept_of
  score-is keeps = elim (dec_le 4 i) [
    | no h ↦ s.early (lt_of_not-le h)
        ∙ sym (next-none (map (histograms o) pxs) (histograms o px) (omega (arith, long, lt_of_not-le h)))
    | yes h ↦
        let n = long in
        let a = tile (i - 4) (omega arith) (omega arith) in
        let b = tile (i - 3) (omega arith) (omega arith) in
        let c = tile (i - 2) (omega arith) (omega arith) in
        let d = tile (i - 1) (omega arith) (omega arith) in
        s.later h (keeps (omega arith) ∙ rw (n, a, c, d))
        ∙ rw (next-some (map (histograms o) pxs) (histograms o px) (omega arith), n, a, b, c, d, own)
  ]

  -- what it keeps is what the next one needs
  pub kept-is : 3 ≤ length pxs → r.kept ≡ kept_of (map (histograms o) pxs ++ histograms o px ∷ [])
  unfolding kept_of
  kept-is h =
      let hs = map (histograms o) pxs in
      let x = histograms o px in
      let n = long in
      let all : length (hs ++ x ∷ []) ≡ i + 1 = omega (arith, length-append hs (x ∷ [])) in
      let first : i + 1 - 4 ≡ i - 3 = omega arith in
      let second : i + 1 - 2 ≡ i - 1 = omega arith in
      let third : i + 1 - 1 ≡ i = omega arith in
      let b = tile (i - 3) (omega arith) (omega arith) in
      let d = tile (i - 1) (omega arith) (omega arith) in
      s.next (omega arith)
      ∙ rw (
        all,
        first,
        second,
        third,
        get_or-other hs x [] (i - 3) (λ e. omega arith),
        get_or-other hs x [] (i - 1) (λ e. omega arith),
        rw n at (get_or-last hs x []),
        b,
        d,
        own,
      )

-- ---- the change and the repeat

module _ (o : Opening) (g : Grid) (s : Progress) (px : List ℕ) (size : length px ≡ g.lines * g.columns)
    (some : 1 ≤ g.lines * g.columns) (few : g.lines * g.columns ≤ 14101)
    (small : Bytes px) where
  exactly : (pxs : List (List ℕ)) → Figures (previous pxs) px (moves_in s) → Bytes (previous pxs) →
      Exact (previous pxs) px (moves_in s)
  exactly pxs f b = exact f b small (omega arith)

  pub change-is : (rounds : Bool) (pxs : List (List ℕ)) (r : ℕ) → s.pictures ≡ length pxs → ChangeOf g s rounds r →
      Figures (previous pxs) px (moves_in s) →
      (0 < length pxs → Bytes (previous pxs) × (length (previous pxs) ≡ length px)) → r ≡ next_change rounds pxs px
  unfolding next_change change spread_of
  change-is rounds [] r n c f b = c.first n
  change-is rounds (p ∷ pxs) r n c f b =
      let all = b (omega arith) in
      let x = exactly (p ∷ pxs) f all.0 in
      let most : s.squares % 2 ^ 32 ≤ 65025 * (g.lines * g.columns) =
      omega (arith, x.both, squared-most (previous (p ∷ pxs)) px all.0 small, ap (λ (k : ℕ). 65025 * k) size) in
      (c.later (λ e. omega arith)).exact some few most ∙ rw (spread-of x all.1, size)

  pub again-is : (pxs : List (List ℕ)) → s.pictures ≡ length pxs → Figures (previous pxs) px (moves_in s) →
      (0 < length pxs → Bytes (previous pxs) × (length (previous pxs) ≡ length px)) →
      again_of s ≡ pick (next_repeat pxs px) 1 0
  unfolding next_repeat
  again-is [] n f b = rw (eq-eqb s.pictures 0 n)
  again-is (p ∷ pxs) n f b =
      let all = b (omega arith) in
      let x = exactly (p ∷ pxs) f all.0 in
      rw (ne_eqb s.pictures 0 (λ e. omega arith), same_of x all.1)

-- ---- the words

module _ (o : Opening) (pxs : List (List ℕ)) (px : List ℕ) {luma : List ℕ} {i q again score kept : ℕ}
    (number : i ≡ length pxs) (few : i < 750) (w : Words o pxs luma)
    (is-q : q ≡ next_change (rounds_to_nearest o.edition) pxs px) (is-again : again ≡ pick (next_repeat pxs px) 1 0)
    (is-score : score ≡ next_score (map (histograms o) pxs) (histograms o px))
    (is-kept : 3 ≤ length pxs → kept ≡ kept_of (map (histograms o) pxs ++ histograms o px ∷ [])) where
  abbrev rounded : Bool
  rounded = rounds_to_nearest o.edition

  one : List ℕ
  one = set luma (850 + i) q

  two : List ℕ
  two = with_bit one i again

  one_size : length one ≡ 1600
  unfolding one
  one_size = length-set luma (850 + i) q ∙ w.size

  two_size : length two ≡ 1600
  unfolding two
  two_size = length-set one (64 + i / 64) ((get_or one (64 + i / 64) 0 + bit_of i again) % 2 ^ 64) ∙ one_size

  stays : (k : ℕ) → (k ≡ 850 + i → ⊥) → (k ≡ 64 + i / 64 → ⊥) → (k ≡ 98 + i → ⊥) →
      get_or (set two (98 + i) score) k 0 ≡ get_or luma k 0
  unfolding one two
  stays k a b c =
      get_or-set_other two (98 + i) k score 0 c
      ∙ get_or-set_other one (64 + i / 64) k ((get_or one (64 + i / 64) 0 + bit_of i again) % 2 ^ 64) 0 b
      ∙ get_or-set_other luma (850 + i) k q 0 a

  -- the word that is kept stands apart from all others
  apart : (k : ℕ) → (k ≡ 17 → ⊥) →
      get_or (set (set two (98 + i) score) 17 kept) k 0 ≡ get_or (set two (98 + i) score) k 0
  apart k h = get_or-set_other (set two (98 + i) score) 17 k kept 0 h

  scalar : (k : ℕ) → k < 17 → get_or (set (set two (98 + i) score) 17 kept) k 0 ≡ get_or luma k 0
  scalar k h = apart k (λ z. omega arith) ∙ stays k (λ z. omega arith) (λ z. omega arith) (λ z. omega arith)

  score-word : (k : ℕ) → k < 750 →
      get_or (set two (98 + i) score) (100 + k) 0 ≡ cut_score (map (histograms o) (pxs ++ px ∷ [])) k
  score-word k h = rw (map-append (histograms o) pxs (px ∷ [])) (go (ℕ_discrete (k + 2) i))
    where
      long : length (map (histograms o) pxs) ≡ length pxs
      long = length-map pxs (histograms o)

      go : Dec (k + 2 ≡ i) →
          get_or (set two (98 + i) score) (100 + k) 0 ≡ cut_score (map (histograms o) pxs ++ histograms o px ∷ []) k
      go (yes e) =
          let here : 100 + k ≡ 98 + i = omega arith in
          rw here (get_or-set_same two (98 + i) score 0 (omega (arith, two_size)) ∙ is-score
          ∙ sym (score-next (map (histograms o) pxs) (histograms o px) k (omega (arith, long))))
      go (no e) =
          stays (100 + k) (λ z. omega arith) (λ z. omega arith) (λ z. e (omega arith))
          ∙ w.scores k h
          ∙ sym (score-other (map (histograms o) pxs) (histograms o px) k (λ a z. e (omega (arith, long))))

  change-word : (k : ℕ) → k < 750 →
      get_or (set two (98 + i) score) (850 + k) 0 ≡ get_or (changes rounded (pxs ++ px ∷ [])) k 0
  unfolding one two
  change-word k h = rw (changes-more rounded pxs px) (go (ℕ_discrete k i))
    where
      go : Dec (k ≡ i) →
          get_or (set two (98 + i) score) (850 + k) 0
          ≡ get_or (changes rounded pxs ++ next_change rounded pxs px ∷ []) k 0
      go (yes e) =
          let n : k ≡ length (changes rounded pxs) = omega (arith, length-changes rounded pxs) in
          let here : 850 + k ≡ 850 + i = omega arith in
          get_or-set_other two (98 + i) (850 + k) score 0 (λ z. omega arith)
          ∙ get_or-set_other one (64 + i / 64) (850 + k) ((get_or one (64 + i / 64) 0 + bit_of i again) % 2 ^ 64) 0
          (λ z. omega arith)
          ∙ ap (λ (z : ℕ). get_or one z 0) here
          ∙ get_or-set_same luma (850 + i) q 0 (omega (arith, w.size))
          ∙ is-q
          ∙ sym (get_or-last (changes rounded pxs) (next_change rounded pxs px) 0)
          ∙ ap (λ (z : ℕ). get_or (changes rounded pxs ++ next_change rounded pxs px ∷ []) z 0) (sym n)
      go (no e) =
          stays (850 + k) (λ z. e (omega arith)) (λ z. omega arith) (λ z. omega arith)
          ∙ w.changes k h
          ∙ sym
          (get_or-other (changes rounded pxs) (next_change rounded pxs px) 0 k
          (λ z. e (omega (arith, length-changes rounded pxs))))

  repeat-word : (j : ℕ) → j < 12 → get_or (set two (98 + i) score) (64 + j) 0 ≡ map_word (repeats (pxs ++ px ∷ [])) j
  unfolding one two
  repeat-word j h = rw (repeats-more pxs px) (go (ℕ_discrete j (i / 64)))
    where
      bits : length (repeats pxs) ≡ i
      bits = length-repeats pxs ∙ sym number

      go : Dec (j ≡ i / 64) →
          get_or (set two (98 + i) score) (64 + j) 0 ≡ map_word (repeats pxs ++ next_repeat pxs px ∷ []) j
      go (yes e) =
          let here : 64 + j ≡ 64 + i / 64 = omega arith in
          let old : get_or one (64 + i / 64) 0 ≡ map_word (repeats pxs) (i / 64) =
          get_or-set_other luma (850 + i) (64 + i / 64) q 0 (λ z. omega arith) ∙ w.repeats (i / 64) (omega arith) in
          let more : map_word (repeats pxs ++ next_repeat pxs px ∷ []) (i / 64)
          ≡ map_word (repeats pxs) (i / 64) + 2 ^ (i % 64) * pick (next_repeat pxs px) 1 0 =
          rw bits at (word_more (repeats pxs) (next_repeat pxs px)) in
          let most = word_small (repeats pxs ++ next_repeat pxs px ∷ []) (i / 64) in
          let power : again * 2 ^ (i % 64) ≡ 2 ^ (i % 64) * pick (next_repeat pxs px) 1 0 =
          mul_comm again (2 ^ (i % 64)) ∙ ap (λ (z : ℕ). 2 ^ (i % 64) * z) is-again in
          get_or-set_other two (98 + i) (64 + j) score 0 (λ z. omega arith)
          ∙ ap (λ (z : ℕ). get_or two z 0) here
          ∙ get_or-set_same one (64 + i / 64) ((get_or one (64 + i / 64) 0 + bit_of i again) % 2 ^ 64) 0
          (omega (arith, one_size))
          ∙ omega (arith, old, more, most, power)
          ∙ ap (λ (z : ℕ). map_word (repeats pxs ++ next_repeat pxs px ∷ []) z) (sym e)
      go (no e) =
          stays (64 + j) (λ z. omega arith) (λ z. e (omega arith)) (λ z. omega arith)
          ∙ w.repeats j h
          ∙ sym (word-other (repeats pxs) (next_repeat pxs px) j (λ z. e (z ∙ ap (λ (k : ℕ). k / 64) bits)))

  pub words_more : Words o (pxs ++ px ∷ []) (noted luma i q again score kept)
  unfolding one two
  words_more =
      record {
        size = all-size;
        opening = rw (
          scalar 12 (omega arith),
          scalar 13 (omega arith),
          scalar 14 (omega arith),
          scalar 15 (omega arith),
          scalar 16 (omega arith),
        ) w.opening;
        scores = λ k h. apart (100 + k) (λ z. omega arith) ∙ score-word k h;
        changes = λ k h. apart (850 + k) (λ z. omega arith) ∙ change-word k h;
        repeats = λ j h. apart (64 + j) (λ z. omega arith) ∙ repeat-word j h;
        kept = λ h. rw (map-append (histograms o) pxs (px ∷ []))
            (get_or-set_same (set two (98 + i) score) 17 kept 0 (omega (arith, three-size))
            ∙ is-kept (omega (arith, length-append pxs (px ∷ []))));
      }
    where
      three-size : length (set two (98 + i) score) ≡ 1600
      three-size = length-set two (98 + i) score ∙ two_size

      all-size : length (set (set two (98 + i) score) 17 kept) ≡ 1600
      all-size = length-set (set two (98 + i) score) 17 kept ∙ three-size
