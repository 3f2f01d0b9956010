use Rattle.std.proofs.Common.{refl, rules}
use Rattle.std.specs.Float.Ieee.{nan}
use Rattle.std.proofs.lemmas.List.Recursion.{and_is}
use Rattle.rules.specs.EffectiveLoss.{is_probability, are_probabilities}
use Rattle.loss.proofs.are_probabilities.Goals as goal

pub returns : goal.returns
unfolding are_probabilities
returns c =
    and_is are_probabilities is_probability refl (λ _ _. refl) c.args.list.now nan _ (search rules) (search rules)
