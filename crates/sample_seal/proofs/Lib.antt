pub mod Sealing
pub mod Writing
