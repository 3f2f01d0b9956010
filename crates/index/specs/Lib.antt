-- The counts that a seal takes the index of.
pub mod Counts
