-- The laws of a script.
pub mod Laws
pub mod Examples
