-- The cells of a capture that goes on: those that are shown, and those that are whole.
use Rattle.std.proofs.Common.{◌≡◌, ℕ, zero, suc, ◌+◌, ◌*◌, ◌≤◌, List, [], ◌∷◌, ◌++◌, map, length, take, drop, sym}
use Rattle.std.proofs.Common.{refl, ap, ◌∙◌, append-nil, arith, take-append-drop, length-take-le, drop-drop}
use Rattle.rules.specs.Refusals.{none}
use Rattle.rules.specs.Packets.{Packet, packets_from, shown, whole}
use Rattle.capture_laws.proofs.Onward.{from-done}
use Rattle.capture_laws.proofs.Flow.{reached}
use Rattle.capture_cells.specs.declared.Cell.{Cell}
use Rattle.capture_cells.specs.Cells.{head, cell_in, cell_of}
use Rattle.capture_cells.proofs.Agree.{agree-take, cell_agree}
use Rattle.capture_steps.specs.Format.{format_fault, head_of, shown_cells, whole_cells, cells_from}
use Rattle.capture_steps.specs.Contract.{Gains, Level}

module _ {A B : Type 0} (f : A → B) where
  pub map-append : (xs ys : List A) → map f (xs ++ ys) ≡ map f xs ++ map f ys
  map-append [] ys = refl
  map-append (x ∷ xs) ys = ap (λ (r : List B). f x ∷ r) (map-append xs ys)

pub heads : (ps : List Packet) → map head_of ps ≡ map head (map cell_of ps)
heads [] = refl
heads (p ∷ ps) = ap (λ (r : List Cell). head_of p ∷ r) (heads ps)

-- in the words of the rules
pub shown_of : (s : List ℕ) → shown_cells s ≡ map head_of (reached 4 s)
unfolding shown_cells shown
shown_of s = refl

pub whole-of : (s : List ℕ) → whole_cells s ≡ map cell_of (reached 188 s)
unfolding whole_cells whole
whole-of s = refl

pub shown-same : (s a : List ℕ) → reached 4 a ≡ reached 4 s → shown_cells a ≡ shown_cells s
shown-same s a e = shown_of a ∙ ap (map head_of) e ∙ sym (shown_of s)

-- ---- cells one behind the other

pub from-cells : (n time place : ℕ) (s : List ℕ) →
    map cell_of (packets_from n time place s) ≡ cells_from n time place s
unfolding packets_from cells_from
from-cells zero time place s = refl
from-cells (suc n) time place s =
    rw (cell_agree (agree-take 6 188 s (omega arith)) (omega arith) time place)
    (ap (λ (r : List Cell). cell_in time place s ∷ r) (from-cells n time (place + 188) (drop 188 s)))

-- one more, at the end: for whoever takes a run's cells one by one
pub cells-more : (n time place : ℕ) (s : List ℕ) →
    cells_from (n + 1) time place s ≡ cells_from n time place s
    ++ cell_in time (place + 188 * n) (drop (188 * n) s) ∷ []
unfolding cells_from
cells-more zero time place s =
    let e : place + 188 * zero ≡ place = omega arith in
    rw e
cells-more (suc n) time place s =
    let a : suc n + 1 ≡ suc (n + 1) = omega arith in
    let e : place + 188 + 188 * n ≡ place + 188 * suc n = omega arith in
    let f : 188 + 188 * n ≡ 188 * suc n = omega arith in
    rw a
    (ap (λ (r : List Cell). cell_in time place s ∷ r) (cells-more n time (place + 188) (drop 188 s)
    ∙ rw (drop-drop (188 * n) 188 s, e, f)))

-- no more bytes are needed than the cells have
pub cells_cut : (n time place : ℕ) (s : List ℕ) → 188 * n ≤ length s → cells_from n time place (take (188 * n) s)
    ≡ cells_from n time place s
cells_cut n time place s h =
    let l : 188 * n ≤ length (take (188 * n) s) = rw (length-take-le (188 * n) s h) (omega arith) in
    sym (from-cells n time place (take (188 * n) s))
    ∙ ap (map cell_of) (sym (from-done n time place (take (188 * n) s) (drop (188 * n) s) l))
    ∙ from-cells n time place (take (188 * n) s ++ drop (188 * n) s)
    ∙ ap (cells_from n time place) (take-append-drop (188 * n) s)

-- ---- what bytes bring

module _ {s a : List ℕ} (clear : format_fault a ≡ none) where
  -- no cell
  pub gains-none : reached 4 a ≡ reached 4 s → reached 188 a ≡ reached 188 s → Gains s a [] []
  gains-none e f =
      record {
        clear = clear;
        shown = shown-same s a e ∙ sym (append-nil (shown_cells s));
        whole = whole-of a ∙ ap (map cell_of) f ∙ sym (whole-of s) ∙ sym (append-nil (whole_cells s));
      }

  -- a cell that is shown, of those behind the ones that are whole
  pub gains-shown : (ps : List Packet) (q : Packet) → reached 4 s ≡ ps → reached 188 s ≡ ps →
      reached 4 a ≡ ps ++ q ∷ [] → reached 188 a ≡ reached 188 s →
      Gains s a (head_of q ∷ []) []
  gains-shown ps q b c d e =
      record {
        clear = clear;
        shown = shown_of a ∙ ap (map head_of) d ∙ map-append head_of ps (q ∷ [])
            ∙ ap (λ (x : List Cell). x ++ head_of q ∷ []) (ap (map head_of) (sym b) ∙ sym (shown_of s));
        whole = whole-of a ∙ ap (map cell_of) e ∙ sym (whole-of s) ∙ sym (append-nil (whole_cells s));
      }

  -- a cell that was shown goes on
  pub gains-same : (ps : List Packet) (p q : Packet) → head_of q ≡ head_of p → reached 4 s ≡ ps ++ p ∷ [] →
      reached 4 a ≡ ps ++ q ∷ [] → reached 188 a ≡ reached 188 s →
      Gains s a [] []
  gains-same ps p q h c d e =
      record {
        clear = clear;
        shown = still ps p q h c d ∙ sym (append-nil (shown_cells s));
        whole = whole-of a ∙ ap (map cell_of) e ∙ sym (whole-of s) ∙ sym (append-nil (whole_cells s));
      }
    where
      still : (ps : List Packet) (p q : Packet) → head_of q ≡ head_of p → reached 4 s ≡ ps ++ p ∷ [] →
          reached 4 a ≡ ps ++ q ∷ [] → shown_cells a ≡ shown_cells s
      still ps p q h c d =
          shown_of a ∙ ap (map head_of) d ∙ map-append head_of ps (q ∷ [])
          ∙ ap (λ (x : Cell). map head_of ps ++ x ∷ []) h
          ∙ sym (map-append head_of ps (p ∷ [])) ∙ ap (map head_of) (sym c) ∙ sym (shown_of s)

  -- and is whole
  pub gains-whole : (ps : List Packet) (p q : Packet) → head_of q ≡ head_of p → reached 4 s ≡ ps ++ p ∷ [] →
      reached 4 a ≡ ps ++ q ∷ [] → reached 188 s ≡ ps →
      reached 188 a ≡ ps ++ q ∷ [] → Gains s a [] (cell_of q ∷ [])
  gains-whole ps p q h c d e f =
      record {
        clear = clear;
        shown =
            shown_of a ∙ ap (map head_of) d ∙ map-append head_of ps (q ∷ [])
            ∙ ap (λ (x : Cell). map head_of ps ++ x ∷ []) h ∙ sym (map-append head_of ps (p ∷ []))
            ∙ ap (map head_of) (sym c) ∙ sym (shown_of s) ∙ sym (append-nil (shown_cells s));
        whole = whole-of a ∙ ap (map cell_of) f ∙ map-append cell_of ps (q ∷ [])
            ∙ ap (λ (x : List Cell). x ++ cell_of q ∷ []) (ap (map cell_of) (sym e) ∙ sym (whole-of s));
      }

  -- cells that are shown and whole at once
  pub gains-many : (ps qs : List Packet) (cs : List Cell) → map cell_of qs ≡ cs → reached 4 s ≡ ps →
      reached 188 s ≡ ps → reached 4 a ≡ ps ++ qs → reached 188 a ≡ ps ++ qs →
      Gains s a (map head cs) cs
  gains-many ps qs cs g b c d e =
      record {
        clear = clear;
        shown = shown_of a ∙ ap (map head_of) d ∙ map-append head_of ps qs
            ∙ rw (heads qs, g) (ap (λ (x : List Cell). x ++ map head cs)
            (ap (map head_of) (sym b) ∙ sym (shown_of s)));
        whole = whole-of a ∙ ap (map cell_of) e ∙ map-append cell_of ps qs
            ∙ rw g (ap (λ (x : List Cell). x ++ cs) (ap (map cell_of) (sym c) ∙ sym (whole-of s)));
      }

pub level : (s : List ℕ) (ps : List Packet) → reached 4 s ≡ ps → reached 188 s ≡ ps → Level s
level s ps e f = shown_of s ∙ ap (map head_of) e ∙ heads ps
    ∙ ap (map head) (ap (map cell_of) (sym f) ∙ sym (whole-of s))
