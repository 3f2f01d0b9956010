-- What document 01 prints of a record.
pub mod Lines
