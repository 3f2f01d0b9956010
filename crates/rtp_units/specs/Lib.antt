-- What the steps to units promise each other. The rule is `Rtp` of the rules.
pub mod Units
