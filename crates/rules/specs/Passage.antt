-- Repeats in a passage (document 02, R-12): the repeated pictures from a up to but without b, and refusal 26.
use Rattle.std.specs.Prelude.{ℕ, List, Bool, ◌&&◌, leb}
use Rattle.rules.specs.declared.Opening.{Opening}
use Rattle.rules.specs.Refusals.{Answer, Fault, unless, ◌or_else◌, answer}
use Rattle.rules.specs.Bytes.{count}
use Rattle.rules.specs.Opening.{opening_fault}
use Rattle.rules.specs.Pictures.{picture_count}
use Rattle.rules.specs.Changes.{repeats}
use Rattle.rules.specs.Scenes.{span, is_true}
use Rattle.rules.specs.Seal.{reduced}

-- how many pictures from a up to but without b are repeated, if the list says of every picture whether it is: the
-- count over the pictures themselves
unfoldable pub repeated_in : ℕ → ℕ → List Bool → ℕ
repeated_in a b rs = count is_true (span a b rs)

-- 26: a above b, or b above the whole pictures n
unfoldable pub passage_fault : ℕ → ℕ → ℕ → Fault
passage_fault n a b = unless (leb a b && leb b n) 26

-- of a count: the opening's number, then 26. 4 to 10 do not stop it
unfoldable pub repeats_fault : Opening → List ℕ → ℕ → ℕ → Fault
repeats_fault o luma a b = opening_fault o or_else passage_fault (picture_count o luma) a b

-- what a count answers: the repeated ones of the passage's whole pictures
unfoldable pub repeats_answer : Opening → List ℕ → ℕ → ℕ → Answer ℕ
repeats_answer o luma a b = answer (repeats_fault o luma a b) (repeated_in a b (repeats (reduced o luma)))
