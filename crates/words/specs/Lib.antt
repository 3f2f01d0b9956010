-- What a write leaves.
pub mod Written
