-- What an answer's, an index's and a filled buffer's stores leave; codes one behind the other.
use Prim.Native.Nat.{ℕ, ◌≤◌}
use native.Mathlib.Omega.{arith}
use mathlib.Core.Path.{◌≡◌, sym, ap, ◌∙◌}
use mathlib.Core.List.{List, [], ◌∷◌, ◌++◌, append-nil, append_assoc}
use lib.ListN.{length, drop, set, length-append, drop_of_length-le}
use Rattle.rules.specs.Refusals.{Answer}
use Rattle.rules.specs.Bytes.{bytes_of}
use Rattle.rules.specs.Calls.{Outcome}
use Rattle.words.specs.Written.{written}
use Rattle.words.proofs.Laws.{written-sets, written-append, length-bytes_of}
use Rattle.replay_outcomes.specs.Codes.{kind_of, first_of, second_of, code, three_words, code_of, codes}

-- an answer's three stores
pub put-law : (out : List ℕ) (a : Answer ℕ) → 17 ≤ length out →
    written 9 (bytes_of 8 (second_of a)) (written 1 (bytes_of 8 (first_of a)) (set out 0 (kind_of a)))
    ≡ code a ++ drop 17 out
unfolding bytes_of written code
put-law out a h =
    let k = kind_of a ∷ [] in
    let x = bytes_of 8 (first_of a) in
    let y = bytes_of 8 (second_of a) in
    ap (λ (l : List ℕ). written 9 y (written 1 x l)) (written-sets 0 k out (omega arith))
    ∙ ap (λ (l : List ℕ). written 9 y l) (written-append 0 k out (omega arith) x)
    ∙ written-append 0 (k ++ x) out (omega arith) y

-- an index's four stores
pub three-law : (out : List ℕ) (kind a b c : ℕ) → length out ≡ 25 →
    written 17 (bytes_of 8 c) (written 9 (bytes_of 8 b) (written 1 (bytes_of 8 a) (set out 0 kind))) ≡
    three_words kind a b c
unfolding bytes_of written three_words
three-law out kind a b c h =
    let k = kind ∷ [] in
    let x = bytes_of 8 a in
    let y = bytes_of 8 b in
    let z = bytes_of 8 c in
    ap (λ (l : List ℕ). written 17 z (written 9 y (written 1 x l))) (written-sets 0 k out (omega arith))
    ∙ ap (λ (l : List ℕ). written 17 z (written 9 y l)) (written-append 0 k out (omega arith) x)
    ∙ ap (λ (l : List ℕ). written 17 z l) (written-append 0 (k ++ x) out (omega arith) y)
    ∙ written-append 0 (k ++ x ++ y) out (omega arith) z
    ∙ rw (drop_of_length-le out {i = 25} (omega arith))

pub code-size : (a : Answer ℕ) → length (code a) ≡ 17
unfolding code
code-size a = simp (length-append, length-bytes_of)

pub codes-snoc : (os : List Outcome) (o : Outcome) → codes (os ++ o ∷ []) ≡ codes os ++ code_of o
unfolding codes
codes-snoc [] o = append-nil (code_of o)
codes-snoc (p ∷ os) o =
    ap (λ (x : List ℕ). code_of p ++ x) (codes-snoc os o) ∙ sym (append_assoc (code_of p) (codes os) (code_of o))
