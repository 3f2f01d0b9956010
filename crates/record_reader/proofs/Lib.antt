-- The laws of answers, and the theorems.
pub mod Answers
pub mod Theorems
pub mod Promise
pub mod Sums
