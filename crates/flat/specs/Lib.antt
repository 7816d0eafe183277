pub mod Flat
pub mod Inner
pub mod Slots
pub mod SeekLaws
pub mod Searches
pub mod Sought
pub mod Told
