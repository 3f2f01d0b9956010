-- The laws of buffers that are written on, and what the calls of writing come to.
pub mod Buffers
