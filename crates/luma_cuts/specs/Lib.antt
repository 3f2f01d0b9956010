-- What the counts of histograms hold.
pub mod Counts
