-- The laws of units.
pub mod Units
pub mod Room
