pub mod Flagged
pub mod Lists
pub mod Merging
pub mod Room
