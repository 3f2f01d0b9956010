-- The refusals of a sample's calls: none of them is renumbered; and those of opening, which gives no place, stand at
-- 0.
use Prim.Native.Nat.{ℕ}
use mathlib.Core.Path.{◌≡◌}
use mathlib.Core.Bool.{Bool}
use mathlib.Core.List.{List}
use Rattle.rules.specs.declared.Opening.{Opening}
use Rattle.rules.specs.Refusals.{Fault, unless, ◌or_else◌}
use Rattle.rules.specs.Editions.{is_edition}
use Rattle.rules.specs.Opening.{good_size, good_time, good_pid, opening_fault, open_answer}
use Rattle.rules.specs.Capture.{capture_fault}
use Rattle.rules.specs.Pictures.{luma_fault}
use Rattle.rules.specs.Changes.{repeats}
use Rattle.rules.specs.Seal.{reduced, index, sealed_length, seal_fault, capture_answer, luma_answer, seal_answer}
use Rattle.rules.specs.WhileFeeding.{index_fault, index_answer}
use Rattle.rules.specs.Passage.{repeated_in, repeats_fault, repeats_answer}
use Rattle.rules.proofs.Laws.Listed.{of_either, opening, capture, luma, seal}
use Rattle.rules.proofs.Laws.WhileFeeding.{index-numbered}
use Rattle.rules.proofs.Laws.Passage.{repeats-numbered}
use Rattle.c_numbers.specs.Numbers.{number_of}
use Rattle.c_numbers.proofs.Refusals.{number_in, of-answer, Unplaced, unplaced-either, unplaced-unless}

-- ---- the number of an answer of the rules is the refusal's own

pub open-number : (o : Opening) → number_of (open_answer o) ≡ number_in (opening_fault o)
unfolding open_answer
open-number o = of-answer (opening_fault o) 0 (opening o)

pub capture-number : (o : Opening) (c : List ℕ) (n : ℕ) →
    number_of (capture_answer o c n) ≡ number_in (opening_fault o or_else capture_fault o c)
unfolding capture_answer
capture-number o c n =
    of-answer (opening_fault o or_else capture_fault o c) n
    (of_either (opening_fault o) (capture_fault o c) (opening o) (capture o c))

pub luma-number : (o : Opening) (l : List ℕ) (n : ℕ) →
    number_of (luma_answer o l n) ≡ number_in (opening_fault o or_else luma_fault o l)
unfolding luma_answer
luma-number o l n =
    of-answer (opening_fault o or_else luma_fault o l) n
    (of_either (opening_fault o) (luma_fault o l) (opening o) (luma o l))

pub seal-number : (o : Opening) (c l : List ℕ) (n : ℕ) →
    number_of (seal_answer o c l n) ≡ number_in (seal_fault o c l n)
unfolding seal_answer
seal-number o c l n = of-answer (seal_fault o c l n) (sealed_length o c l) (seal o c l n)

pub index_number_lem : (o : Opening) (c l : List ℕ) → number_of (index_answer o c l) ≡ number_in (index_fault o c l)
unfolding index_answer
index_number_lem o c l = of-answer (index_fault o c l) (index o c l) (index-numbered o c l)

pub repeats-number : (o : Opening) (l : List ℕ) (a b : ℕ) →
    number_of (repeats_answer o l a b) ≡ number_in (repeats_fault o l a b)
unfolding repeats_answer
repeats-number o l a b =
    of-answer (repeats_fault o l a b) (repeated_in a b (repeats (reduced o l))) (repeats-numbered o l a b)

-- ---- an opening's refusals stand at 0

of_three : (a b c : Bool) (k l m : ℕ) (f : Fault) → Unplaced f →
    Unplaced (unless a k or_else unless b l or_else unless c m or_else f)
of_three a b c k l m f x =
    unplaced-either (unless a k) (unless b l or_else unless c m or_else f) (unplaced-unless a k)
    (unplaced-either (unless b l) (unless c m or_else f) (unplaced-unless b l)
    (unplaced-either (unless c m) f (unplaced-unless c m) x))

pub open-unplaced : (o : Opening) → Unplaced (opening_fault o)
unfolding opening_fault
open-unplaced o =
    of_three (good_size o.width o.height) (good_time o.time) (good_pid o.pid) 1 2 3
    (unless (is_edition o.edition) 20)
    (unplaced-unless (is_edition o.edition) 20)
