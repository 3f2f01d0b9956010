pub mod Taking
pub mod Pieces
pub mod Sums
