-- What the steps to rows in order promise each other. The rule is `Rtp` of the rules.
pub mod Order
