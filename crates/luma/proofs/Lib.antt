pub mod Pieces
pub mod Posts
pub mod Seals
