pub mod Contract
pub mod Owned
pub mod Calls
pub mod ReadBack
