pub mod Walk
pub mod Steps
pub mod Node
pub mod Findings
pub mod Least
pub mod Minimum
pub mod Bounds
pub mod Reorder
