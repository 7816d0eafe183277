pub mod Worth
pub mod Picked
pub mod WorthLaws
