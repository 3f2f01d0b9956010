pub mod Tallies
pub mod Past
