-- What the functions' proofs stand on.
pub mod Kept
pub mod Opens
