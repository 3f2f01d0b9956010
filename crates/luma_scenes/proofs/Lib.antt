pub mod Held
pub mod Starts
pub mod Loops
pub mod Sample
