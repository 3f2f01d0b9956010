-- What a record's own figures say of it: the index that its rows reach, and the marks that every sealed record has.
pub mod Totals
pub mod Marks
pub mod Within
