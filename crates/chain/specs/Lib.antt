pub mod View
pub mod Rising
pub mod Facts
pub mod Checks
pub mod ViewLaws
