use Rattle.std.proofs.Common.{ℕ, ◌≡◌, sym, ◌∙◌, List, length, get_or, ltb, ltb-true, ltb-false, Bor}
use Rattle.std.proofs.Common.{Option, Some, None, IfSome}
use Rattle.std.specs.Option.{is_some, unwrap_or, option_copied}
use Rattle.std.specs.Prelude.{Float}
use lib.ListN.{get_or-eq_default}
use Rattle.loss_spread.proofs.Steps.{one-is, default}
use Rattle.loss_spread.proofs.probability_at.Goals as goal

found : (o : Option (Bor Float)) (ps : List Float) (k : ℕ) (d : Float) → is_some o ≡ ltb k (length ps) →
    IfSome o (λ x. x.now ≡ get_or ps k x.now) → unwrap_or (option_copied o) d ≡ get_or ps k d
found None ps k d e h = sym (get_or-eq_default ps d (ltb-false k (length ps) (sym e)))
found (Some x) ps k d e h = h ∙ default ps k x.now d (ltb-true k (length ps) (sym e))

pub returns : goal.returns
returns c =
    let h = c.get.ensures.lookup in
    rw (c.unwrap_or.ensures, c.copied.ensures, one-is) (found _ c.args.probabilities.now c.args.k _ h.0 h.1)
