-- How large a sample's cut scores and changes can be.
use Prim.Native.Nat.{ℕ, suc, ◌*◌, ◌≤◌, ◌<◌}
use native.Mathlib.Omega.{arith}
use mathlib.Core.Path.{◌≡◌, sym, ◌∙◌}
use mathlib.Core.List.{List, [], ◌∷◌, map}
use mathlib.Core.Bool.{Bool}
use lib.ListN.{length, get_or}
use Rattle.rules.specs.declared.Opening.{Opening}
use Rattle.rules.specs.Bytes.{All, and, Bytes, empty}
use Rattle.rules.specs.Refusals.{none}
use Rattle.rules.specs.Opening.{opening_fault, columns, lines, pixel_count}
use Rattle.rules.specs.Histograms.{histograms}
use Rattle.rules.specs.Cuts.{cut_scores}
use Rattle.rules.specs.Changes.{changes_after, changes}
use Rattle.rules.specs.Seal.{reduced}
use Rattle.luma_laws.proofs.Sizes.{good, sizes}
use Rattle.luma_laws.proofs.Differences.{reduced-at, scores-most}
use Rattle.luma_laws.proofs.Spread.{change-most}
use Rattle.luma_laws.proofs.Scenes.{score-at, scores-length}

module _ {A : Type 0} {P : A → Type 0} where
  all_of : (z : A) (xs : List A) → ((j : ℕ) → j < length xs → P (get_or xs j z)) → All P xs
  all_of z [] h = empty
  all_of z (x ∷ xs) h = and (h 0 (omega arith)) (all_of z xs (λ j g. h (suc j) (omega arith)))

abbrev pub AtMost : ℕ → ℕ → Type 0
AtMost most x = x ≤ most

-- w × h pixels, each a byte
abbrev Reduced : ℕ → List ℕ → Type 0
Reduced n px = Bytes px × (length px ≡ n)

module _ (rounds : Bool) (n : ℕ) (k : 0 < n) where
  after-changed : (px : List ℕ) (pxs : List (List ℕ)) → Reduced n px → All (Reduced n) pxs →
      All (AtMost 25500) (changes_after rounds px pxs)
  unfolding changes_after
  after-changed px [] h hs = empty
  after-changed px (py ∷ pxs) h (and g gs) =
      and (change-most rounds px py h.0 g.0 (h.1 ∙ sym g.1) (omega arith)) (after-changed py pxs g gs)

  all_changed : (pxs : List (List ℕ)) → All (Reduced n) pxs → All (AtMost 25500) (changes rounds pxs)
  unfolding changes
  all_changed [] h = empty
  all_changed (px ∷ pxs) (and h hs) = and {x = 0} (omega arith) (after-changed px pxs h hs)

module _ (o : Opening) (luma : List ℕ) (bytes : Bytes luma) where
  pub sample-scored : All (AtMost 1000000) (cut_scores (map (histograms o) (reduced o luma)))
  sample-scored =
      let hs = map (histograms o) (reduced o luma) in
      all_of 0 (cut_scores hs)
      (λ j g. rw (score-at hs j (omega (arith, scores-length hs))) (scores-most o luma j bytes))

  pub sample-changed : (rounds : Bool) → opening_fault o ≡ none → All (AtMost 25500) (changes rounds (reduced o luma))
  unfolding pixel_count
  sample-changed rounds h =
      all_changed rounds (columns o * lines o) (sizes o (good o h)).pixels_some (reduced o luma)
      (all_of [] (reduced o luma) (λ j g. reduced-at o luma j bytes g))
