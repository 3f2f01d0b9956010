-- The laws of outcomes as bytes.
pub mod Laws
pub mod Examples
