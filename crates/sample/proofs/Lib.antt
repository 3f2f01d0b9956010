pub mod Lists
pub mod Opened
pub mod Feeds
pub mod ReadBack
