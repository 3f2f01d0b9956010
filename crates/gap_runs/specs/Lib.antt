-- How one gap more moves the entries of the table. The rule is `GapRuns` of the rules.
pub mod Entries
