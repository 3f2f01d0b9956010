pub mod Words
pub mod Next
pub mod Contract
