-- The laws of lengths, and of records that are cut from a string by them.
use Prim.Native.Nat.{ℕ, zero, suc, ◌+◌, ◌*◌, ◌^◌, ◌≤◌, ◌<◌}
use native.Mathlib.Omega.{arith}
use native.Mathlib.Nat.{suc-mul}
use native.Mathlib.Numerals.{add-one}
use mathlib.Core.Path.{◌≡◌, refl, sym, ap, ◌∙◌}
use mathlib.Core.Bool.{true}
use mathlib.Core.List.{List, [], ◌∷◌, ◌++◌, map}
use lib.ListN.{length, take, drop, get_or, length-append, length-drop, take-append-drop}
use lib.Seq.{take-suc, drop-cons, drop-drop, take_at, drop_at, length-take-le}
use lib.Dec.{leb, eqb}
use borrow.Author.Tests.{leb-true, eqb-true}
use Rattle.std.specs.List.{sum}
use Rattle.std.proofs.lemmas.List.Sums.{sum_by-cons}
use Rattle.rules.specs.Bytes.{total, end_to_end, All, empty, and}
use Rattle.rules.specs.Refusals.{Fault, none, fault, ◌or_else◌}
use Rattle.rules.specs.Reading.{reading_fault}
use Rattle.rules.specs.Shelf.{refused_at, first_refused, head_bytes, shelf_of}
use Rattle.rules.proofs.Laws.Lists.{both, total-append}
use Rattle.shelf.proofs.Written.{joined_length, few_bytes, head-length}
use Rattle.shelf_writer.specs.Writing.{cut_up, good_lengths, shelf_length}

-- ---- lengths

-- in one chain
pub sum_of_lengths : (ls : List ℕ) → sum (map (λ l. l) ls) ≡ total ls
unfolding total
sum_of_lengths [] = refl
sum_of_lengths (l ∷ ls) =
    sum_by-cons (λ (x : ℕ). x) l (map (λ x. x) ls) ∙ ap (λ (x : ℕ). l + x) (sum_of_lengths ls)

-- 32 bits each: 64 bits hold the sum of few
pub total-most : (ls : List ℕ) → ((k : ℕ) → get_or ls k 0 < 2 ^ 32) → total ls ≤ length ls * 4294967295
unfolding total
total-most [] h = omega arith
total-most (l ∷ ls) h = omega (arith, h 0, total-most ls (λ k. h (suc k)), suc-mul (length ls) 4294967295)

pub total-more : (ls : List ℕ) (j : ℕ) → j < length ls → total (take (j + 1) ls) ≡ total (take j ls) + get_or ls j 0
unfolding total
total-more ls j h =
    ap (λ (k : ℕ). total (take k ls)) (add-one j)
    ∙ ap total (take-suc ls j 0 h)
    ∙ total-append (take j ls) (get_or ls j 0 ∷ [])
    ∙ omega arith

pub total-part : (ls : List ℕ) (j : ℕ) → total (take j ls) ≤ total ls
unfolding total
total-part [] zero = omega arith
total-part [] (suc j) = omega arith
total-part (l ∷ ls) zero = omega arith
total-part (l ∷ ls) (suc j) = omega (arith, total-part ls j)

pub good : (s ls : List ℕ) → good_lengths ls (length s) ≡ true → (length ls ≤ 4096) × (total ls ≡ length s)
unfolding good_lengths
good s ls e =
    let b = both (leb (length ls) 4096) (eqb (total ls) (length s)) e in
    (leb-true (length ls) 4096 b.0, eqb-true (total ls) (length s) b.1)

-- ---- records

-- the next one, and those behind it
pub cut-next : (s ls : List ℕ) (start j : ℕ) → j < length ls →
    cut_up (drop start s) (drop j ls) ≡
    take (get_or ls j 0) (drop start s) ∷ cut_up (drop (start + get_or ls j 0) s) (drop (j + 1) ls)
unfolding cut_up
cut-next s ls start j h =
    let l = get_or ls j 0 in
    let r = take l (drop start s) in
    ap (cut_up (drop start s)) (drop-cons ls j 0 h)
    ∙ ap (λ (z : List ℕ). r ∷ cut_up z (drop (suc j) ls)) (drop-drop l start s)
    ∙ ap (λ (k : ℕ). r ∷ cut_up (drop (start + l) s) (drop k ls)) (sym (add-one j))

pub cut-count : (s ls : List ℕ) → length (cut_up s ls) ≡ length ls
unfolding cut_up
cut-count s [] = refl
cut-count s (l ∷ ls) = ap suc (cut-count (drop l s) ls)

-- what the first length leaves is what the others have
left_over : (s : List ℕ) (l n : ℕ) → l + n ≡ length s → n ≡ length (drop l s)
left_over s l n e = simp length-drop (omega arith)

pub cut-lengths : (s ls : List ℕ) → total ls ≡ length s → map length (cut_up s ls) ≡ ls
unfolding cut_up total
cut-lengths s [] e = refl
cut-lengths s (l ∷ ls) e =
    ap (λ (k : ℕ). k ∷ map length (cut_up (drop l s) ls)) (length-take-le l s (omega arith))
    ∙ ap (λ (z : List ℕ). l ∷ z) (cut-lengths (drop l s) ls (left_over s l (total ls) e))

nothing : (s : List ℕ) → 0 ≡ length s → [] ≡ s
nothing [] e = refl
nothing (x ∷ s) e = absurd (omega arith)

-- all of the string, and nothing twice
pub cut-joined : (s ls : List ℕ) → total ls ≡ length s → end_to_end (cut_up s ls) ≡ s
unfolding cut_up end_to_end total
cut-joined s [] e = nothing s e
cut-joined s (l ∷ ls) e =
    ap (λ (z : List ℕ). take l s ++ z) (cut-joined (drop l s) ls (left_over s l (total ls) e))
    ∙ take-append-drop l s

-- records laid end to end are cut from there as they were
pub cut-back : (rs : List (List ℕ)) → cut_up (end_to_end rs) (map length rs) ≡ rs
unfolding cut_up end_to_end
cut-back [] = refl
cut-back (r ∷ rs) =
    let more = end_to_end rs in
    ap (λ (z : List ℕ). z ∷ cut_up (drop (length r) (r ++ more)) (map length rs)) (take_at r more (length r) refl)
    ∙ ap (λ (z : List ℕ). r ∷ cut_up z (map length rs)) (drop_at r more (length r) refl)
    ∙ ap (λ (z : List (List ℕ)). r ∷ z) (cut-back rs)

-- where none is refused, the reader takes each
pub each-taken : (j : ℕ) (rs : List (List ℕ)) → first_refused j rs ≡ none →
    All (λ (r : List ℕ). reading_fault r ≡ none) rs
unfolding first_refused
each-taken j [] e = empty
each-taken j (r ∷ rs) e = go (reading_fault r) refl e (each-taken (j + 1) rs)
  where
    go : (f : Fault) → reading_fault r ≡ f → (refused_at f j or_else first_refused (j + 1) rs) ≡ none →
        (first_refused (j + 1) rs ≡ none → All (λ (q : List ℕ). reading_fault q ≡ none) rs) →
        All (λ (q : List ℕ). reading_fault q ≡ none) (r ∷ rs)
    go none k d more = and {x = r} k (more d)
    go (fault i p) k d more = absurd (let z : ◌≡◌ {A = ℕ} 0 1 = cc in omega arith)

-- ---- the shelf's length

pub shelf-length : (rs : List (List ℕ)) → length (shelf_of rs) ≡ shelf_length (map length rs)
unfolding shelf_of shelf_length
shelf-length rs =
    length-append (head_bytes (map length rs)) (end_to_end rs)
    ∙ omega (arith, head-length (map length rs), joined_length rs)

-- 32 bits hold it where the reader takes each record
pub shelf-small : (s ls : List ℕ) → length ls ≤ 4096 → total ls ≡ length s → first_refused 0 (cut_up s ls) ≡ none →
    shelf_length ls < 2 ^ 32
unfolding shelf_length
shelf-small s ls few fits e =
    let rs = cut_up s ls in
    omega (arith, few_bytes (each-taken 0 rs e), ap total (cut-lengths s ls fits), cut-count s ls)
