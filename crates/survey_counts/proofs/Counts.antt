-- The table of counts: a cell more, a run of cells, and the rules' counts.
use Rattle.std.proofs.Common.{◌≡◌, ℕ, zero, suc, ◌+◌, ◌*◌, ◌%◌, ◌^◌, ◌<◌, ◌≤◌, false, ◌&&◌, eqb}
use Rattle.std.proofs.Common.{List, [], ◌∷◌, ◌++◌, map, length, get_or, drop, set, replicate, sym, refl, ap}
use Rattle.std.proofs.Common.{◌∙◌, append_assoc, append-nil, arith, length-append, length-set, get_or-set_other}
use Rattle.std.proofs.Common.{get_or-set_same, eq-eqb, ne_eqb}
use native.Mathlib.Decide.{dec_le}
use Rattle.rules.specs.declared.Condition.{Condition}
use Rattle.rules.specs.declared.Condition.TheVariants.{Good, Damaged, Bad}
use Rattle.rules.specs.Bytes.{pick, count}
use Rattle.rules.specs.Packets.{Packet, packets, whole, is_good}
use Rattle.rules.specs.Capture.{all_frames}
use Rattle.rules.specs.Survey.{good_of, good_packets}
use Rattle.rules.proofs.Laws.Lists.{count-append, count-few}
use Rattle.capture_cells.specs.declared.Cell.{Cell}
use Rattle.capture_cells.specs.Cells.{cell_in, cell_of}
use Rattle.capture_steps.specs.Format.{whole_cells, cells_from}
use Rattle.capture_steps.proofs.Lists.{cells-more}
use Rattle.survey_counts.specs.Table.{tally, count_in, Table, Tallied}

same : (a b : ℕ) → Dec (a ≡ b)
same a b = go (dec_le a b) (dec_le b a)
  where
    go : Dec (a ≤ b) → Dec (b ≤ a) → Dec (a ≡ b)
    go (yes p) (yes q) = yes (omega arith)
    go (yes p) (no q) = no (λ e. q (omega arith))
    go (no p) d = no (λ e. p (omega arith))

-- ---- the table

abbrev one : ℕ → Cell → ℕ
one id c = pick (is_good c.condition && eqb c.identifier id) 1 0

tally-more : (cs : List Cell) (c : Cell) (id : ℕ) → tally (cs ++ c ∷ []) id ≡ tally cs id + one id c
unfolding tally count
tally-more cs c id =
    count-append (λ (x : Cell). is_good x.condition && eqb x.identifier id) cs (c ∷ []) ∙ omega arith

tally-few : (cs : List Cell) (id : ℕ) → tally cs id ≤ length cs
unfolding tally
tally-few cs id = count-few (λ (x : Cell). is_good x.condition && eqb x.identifier id) cs

pub tallied-none : (t : List ℕ) → Tallied t [] t
tallied-none t = record { size = refl; counts = λ xs l h b. rw append-nil b }

pub tallied-on : {t t' t'' : List ℕ} {cs ds : List Cell} → Tallied t cs t' → Tallied t' ds t'' →
    Tallied t (cs ++ ds) t''
tallied-on {t} {t'} {t''} {cs} {ds} a b =
    record {
      size = b.size ∙ a.size;
      counts = λ xs l h d.
          let n = length-append cs ds in
          let m = length-append xs cs in
          let first = a.counts xs l (omega arith) d in
          rw (← append_assoc xs cs ds) (b.counts (xs ++ cs) (a.size ∙ l) (omega arith) first);
    }

-- a cell that is not good
not-good : (k : Condition) → (k ≡ Good → ⊥) → is_good k ≡ false
not-good Good h = absurd (h refl)
not-good Damaged h = refl
not-good Bad h = refl

pub tallied-other : (t : List ℕ) (c : Cell) → (c.condition ≡ Good → ⊥) → Tallied t (c ∷ []) t
tallied-other t c f =
    record {
      size = refl;
      counts = λ xs l h d.
          record {
            at = λ id k.
                let z : one id c ≡ 0 = rw (not-good c.condition f) in
                d.at id k ∙ sym (tally-more xs c id ∙ omega arith);
          };
    }

-- a good one
pub tallied-good : (t t' : List ℕ) (c : Cell) → c.condition ≡ Good → c.identifier < 8192 →
    t' ≡ set t c.identifier ((get_or t c.identifier 0 + 1) % 2 ^ 32) → Tallied t (c ∷ []) t'
tallied-good t t' c good small put =
    record {
      size = ap length put ∙ length-set t c.identifier x;
      counts = λ xs l h d. record { at = λ id k. go xs l h d id k (same c.identifier id) };
    }
  where
    x : ℕ
    x = (get_or t c.identifier 0 + 1) % 2 ^ 32

    go : (xs : List Cell) → length t ≡ 8192 → length xs + 1 < 4294967296 → Table t xs → (id : ℕ) → id < 8192 →
        Dec (c.identifier ≡ id) → get_or t' id 0 ≡ tally (xs ++ c ∷ []) id
    go xs l h d id k (yes q) =
        let z : one id c ≡ 1 = rw (good, eq-eqb c.identifier id q) in
        let a = d.at c.identifier small in
        let w = tally-few xs c.identifier in
        let g : get_or t' c.identifier 0 ≡ x = rw put (get_or-set_same t c.identifier x 0 (omega arith)) in
        let y : get_or t' c.identifier 0 ≡ tally xs c.identifier + 1 = g ∙ omega arith in
        let m = tally-more xs c id in
        ap (count_in t') (sym q) ∙ y ∙ ap (λ (n : ℕ). tally xs n + 1) q ∙ omega arith
    go xs l h d id k (no q) =
        let z : one id c ≡ 0 = rw (good, ne_eqb c.identifier id q) in
        let m = tally-more xs c id in
        rw put (get_or-set_other t c.identifier id x 0 (λ y. q (sym y))) ∙ d.at id k ∙ omega arith

-- ---- the rules' counts

tally-of : (ps : List Packet) (id : ℕ) → tally (map cell_of ps) id ≡ good_of ps id
unfolding tally good_of count cell_in
tally-of [] id = refl
tally-of (p ∷ ps) id = rw (tally-of ps id)

pub tally-good : (capture : List ℕ) (id : ℕ) → tally (whole_cells capture) id ≡ good_packets capture id
unfolding whole_cells good_packets
tally-good capture id = tally-of (whole (packets 24 (all_frames capture))) id

-- ---- a run of cells, one by one

pub run_none : (t : List ℕ) (time place : ℕ) (s : List ℕ) → Tallied t (cells_from 0 time place s) t
unfolding cells_from
run_none t time place s = tallied-none t

pub run_more : {t t' t'' : List ℕ} {c : Cell} (k time place : ℕ) (s : List ℕ) →
    Tallied t (cells_from k time place s) t' → c ≡ cell_in time (place + 188 * k) (drop (188 * k) s) →
    Tallied t' (c ∷ []) t'' → Tallied t (cells_from (k + 1) time place s) t''
run_more k time place s a e b = rw (cells-more k time place s, ← e) (tallied-on a b)

pub run-all : {t t' : List ℕ} (k n time place : ℕ) (s : List ℕ) → k ≡ n → Tallied t (cells_from k time place s) t' →
    Tallied t (cells_from n time place s) t'
run-all k n time place s e a = rw (← e) a

-- ---- a fresh table

pub zeros : (n id : ℕ) → ◌≡◌ {A = ℕ} (get_or (replicate n 0) id 0) 0
zeros zero id = refl
zeros (suc n) zero = refl
zeros (suc n) (suc id) = zeros n id
