-- The words of a luma side hold its sample's figures: the scores, the changes, and a map whose words have the repeats
-- for their binary digits.
use Prim.Native.Nat.{ℕ, zero, suc, ◌+◌, ◌/◌, ◌≤◌, ◌<◌}
use native.Mathlib.Omega.{arith}
use mathlib.Core.Path.{◌≡◌, sym, ◌∙◌}
use mathlib.Core.List.{List, map}
use mathlib.Core.Bool.{Bool, false}
use lib.ListN.{length, get_or}
use Rattle.rules.specs.declared.Opening.{Opening}
use Rattle.rules.specs.Bytes.{pick, All, and, empty, Bytes}
use Rattle.rules.specs.Refusals.{none}
use Rattle.rules.specs.Opening.{opening_fault}
use Rattle.rules.specs.Pictures.{picture_count}
use Rattle.rules.specs.Histograms.{histograms}
use Rattle.rules.specs.Cuts.{cut_score, cut_scores}
use Rattle.rules.specs.Changes.{repeats, changes}
use Rattle.rules.specs.Seal.{reduced}
use Rattle.luma_laws.proofs.Scenes.{score-at, sample-scores, scores-length, pictures-most, reduced-length}
use Rattle.luma_laws.proofs.Ranges.{AtMost, sample-scored, sample-changed}
use Rattle.luma_laws.specs.Past.{map_word}
use Rattle.luma_laws.proofs.Past.{length-repeats, length-changes, word-bit}
use Rattle.luma_scenes.specs.Words.{Bits, Holds, bit_at}

map-bits : (w : List ℕ) (n : ℕ) (rs : List Bool) → n ≤ 750 → length rs ≡ n →
    ((j : ℕ) → j < 12 → get_or w (64 + j) 0 ≡ map_word rs j) → Bits w n rs
unfolding bit_at
map-bits w n rs few e f = record { size = e; bit = at }
  where
    at : (i : ℕ) → i < n → bit_at w i ≡ pick (get_or rs i false) 1 0
    at i h = rw (f (i / 64) (omega arith)) (word-bit rs i)

all-at : (most : ℕ) {xs : List ℕ} → All (AtMost most) xs → (i : ℕ) → i < length xs → get_or xs i 0 ≤ most
all-at most empty i g = elim g [ ]
all-at most (and h hs) zero g = h
all-at most (and h hs) (suc i) g = all-at most hs i (omega arith)

-- the words of a luma side that was fed these bytes hold the figures of its whole pictures
pub sample-holds : (rounds : Bool) (o : Opening) (luma w : List ℕ) → opening_fault o ≡ none → Bytes luma →
    ((i : ℕ) → i < 750 → get_or w (100 + i) 0 ≡ cut_score (map (histograms o) (reduced o luma)) i) →
    ((i : ℕ) → i < 750 → get_or w (850 + i) 0 ≡ get_or (changes rounds (reduced o luma)) i 0) →
    ((j : ℕ) → j < 12 → get_or w (64 + j) 0 ≡ map_word (repeats (reduced o luma)) j) →
    Holds w (picture_count o luma) (cut_scores (map (histograms o) (reduced o luma))) (repeats (reduced o luma))
    (changes rounds (reduced o luma))
sample-holds rounds o luma w h b fs fq fr =
    let pxs = reduced o luma in
    let hs = map (histograms o) pxs in
    let few = pictures-most o luma in
    let n = reduced-length o luma in
    let s = sample-scores o luma in
    let l = scores-length hs in
    let q : length (changes rounds pxs) ≡ picture_count o luma = length-changes rounds pxs ∙ n in
    record {
      few = few;
      scores = record {
        size = s;
        word = λ i g. fs i (omega arith) ∙ sym (score-at hs i (omega arith));
        bound = λ i g. all-at 1000000 (sample-scored o luma b) i (omega arith);
      };
      repeats = map-bits w (picture_count o luma) (repeats pxs) few (length-repeats pxs ∙ n) fr;
      changes = record {
        size = q;
        word = λ i g. fq i (omega arith);
        bound = λ i g. all-at 25500 (sample-changed o luma b rounds h) i (omega arith);
      };
    }
