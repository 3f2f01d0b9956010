-- Counting runs, and the laws that the functions' proofs stand on.
pub mod Counting
pub mod Filling
