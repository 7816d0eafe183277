-- The minimum in code.
pub mod Inputs
pub mod Contract
pub mod Order
pub mod Searched
pub mod Found
pub mod Settling
pub mod Choices
pub mod Bringing
pub mod Standing
pub mod Takings
pub mod Rows
pub mod RowsLaws
pub mod Choosing
pub mod Walking
pub mod Laying
