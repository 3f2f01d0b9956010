pub mod Figures
pub mod Contract
pub mod Rows
