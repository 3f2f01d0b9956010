-- The laws of a record: numbers in bytes, a record's bytes and figures, what the reader allows; how great the
-- figures of a sample can get, and that its record is allowed and reads back.
pub mod Words
pub mod Record
pub mod Allowed
pub mod Ranges
pub mod Sealed
pub mod Editions
