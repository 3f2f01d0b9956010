-- What the walks of the effective loss ask of their lists. The rule is `EffectiveLoss` of the rules.
pub mod Alike
