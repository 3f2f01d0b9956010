-- `most_scenes` meets its contract: what the reader allows is not refused. Assumes nothing.
use Prim.Native.Nat.{ℕ}
use mathlib.Core.Path.{ap, ◌∙◌}
use Rattle.std.specs.Result.{result_unwrap_or}
use Rattle.rules.specs.Refusals.{Answer}
use Rattle.record_verify.proofs.Answers.{most-given}
use Rattle.record_verify.proofs.most_scenes.Goals as goal

pub returns : goal.returns
returns c =
    c.unwrap_or.ensures
    ∙ ap (λ (a : Answer ℕ). result_unwrap_or a 0) (c.most_scenes.ensures ∙ most-given _ _ c.requires)
