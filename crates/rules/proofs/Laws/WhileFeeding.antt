-- The order of an index call's refusals, and what it is where a seal is done.
use Prim.Native.Nat.{ℕ}
use native.Mathlib.Omega.{arith}
use mathlib.Core.Path.{◌≡◌, refl}
use mathlib.Core.List.{List, [], ◌∷◌}
use lib.Dec.{eqb}
use borrow.Author.Tests.{eq-eqb, ne_eqb}
use Rattle.rules.specs.declared.Opening.{Opening}
use Rattle.rules.specs.declared.UnitRow.{UnitRow}
use Rattle.std.specs.Prelude.{Ok}
use Rattle.rules.specs.Refusals.{Fault, none, fault, ◌or_else◌}
use Rattle.rules.specs.Opening.{opening_fault}
use Rattle.rules.specs.Capture.{units, capture_fault}
use Rattle.rules.specs.Pictures.{picture_count, luma_fault}
use Rattle.rules.specs.Seal.{index, capture_unfinished, no_packet, luma_unfinished, no_picture, seal_fault}
use Rattle.rules.specs.WhileFeeding.{index_fault, index_answer}
use Rattle.rules.proofs.Laws.Listed.{Numbered, of_either, of-pick, of-units, opening, capture, luma}

module _ (o : Opening) (c l : List ℕ) where
  -- the opening's number comes first
  pub opening-first : (k p : ℕ) → opening_fault o ≡ fault k p → index_fault o c l ≡ fault k p
  unfolding index_fault
  opening-first k p e = rw e

  module _ (opened : opening_fault o ≡ none) where
    -- then what the capture shows first, whatever the luma shows
    pub capture-next : (k p : ℕ) → capture_fault o c ≡ fault k p → index_fault o c l ≡ fault k p
    unfolding index_fault
    capture-next k p e = rw (opened, e)

    module _ (clear : capture_fault o c ≡ none) where
      -- then 10
      pub luma-next : (k p : ℕ) → luma_fault o l ≡ fault k p → index_fault o c l ≡ fault k p
      unfolding index_fault
      luma-next k p e = rw (opened, clear, e)

      module _ (short : luma_fault o l ≡ none) where
        -- then 12, whether there is a picture or not
        pub twelve-next : units o c ≡ [] → index_fault o c l ≡ fault 12 0
        unfolding index_fault no_packet
        twelve-next e = rw (opened, clear, short, e)

        module _ (u : UnitRow) (us : List UnitRow) (some : units o c ≡ u ∷ us) where
          -- then 14
          pub fourteen-last : picture_count o l ≡ 0 → index_fault o c l ≡ fault 14 0
          unfolding index_fault no_packet no_picture
          fourteen-last e = rw (opened, clear, short, some, eq-eqb (picture_count o l) 0 e)

          -- and nothing else: 11 and 13 do not stop it
          pub no_other : (picture_count o l ≡ 0 → ⊥) → index_answer o c l ≡ Ok (index o c l)
          unfolding index_answer index_fault no_packet no_picture
          no_other e = rw (opened, clear, short, some, ne_eqb (picture_count o l) 0 e)

-- ---- where a seal is done

both-none : (f g : Fault) → f or_else g ≡ none → (f ≡ none) × (g ≡ none)
both-none none g e = (refl, e)
both-none (fault k p) g e = absurd (never e)
  where
    never : fault k p ≡ none → ⊥
    never e = let z : ◌≡◌ {A = ℕ} 0 1 = cc in omega arith

-- an index call gives the index whose bits the record has (`Seal.header`)
pub of-a-record : (o : Opening) (c l : List ℕ) (n : ℕ) → seal_fault o c l n ≡ none →
    index_answer o c l ≡ Ok (index o c l)
unfolding seal_fault index_answer index_fault
of-a-record o c l n e =
    let a = both-none (opening_fault o) _ e in
    let b = both-none (capture_fault o c) _ a.1 in
    let d = both-none (luma_fault o l) _ b.1 in
    let f = both-none (capture_unfinished c) _ d.1 in
    let g = both-none (no_packet (units o c)) _ f.1 in
    let h = both-none (luma_unfinished o l) _ g.1 in
    let i = both-none (no_picture (picture_count o l)) _ h.1 in
    rw (a.0, b.0, d.0, g.0, i.0)

-- ---- the number is in the table

pub index-numbered : (o : Opening) (c l : List ℕ) → Numbered (index_fault o c l)
unfolding index_fault no_picture
index-numbered o c l =
    of_either (opening_fault o) _ (opening o)
    (of_either (capture_fault o c) _ (capture o c)
    (of_either (luma_fault o l) _ (luma o l)
    (of_either (no_packet (units o c)) _ (of-units (units o c))
    (of-pick (eqb (picture_count o l) 0) (fault 14 0) none refl tt))))
