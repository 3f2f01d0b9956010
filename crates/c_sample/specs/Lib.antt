pub mod Replies
pub mod Contract
pub mod Calls
