-- The facts, proved of every record that can be sealed, and then of every successful seal.
pub mod Repeated
pub mod Still
pub mod Starts
pub mod Units
pub mod Scenes
pub mod Rows
pub mod Carried
pub mod Facts
