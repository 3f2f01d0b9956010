-- The theorems of the busiest sample, and the laws that they and the functions' proofs stand on.
pub mod Laws
