-- The laws that the functions' proofs stand on.
pub mod Steps
