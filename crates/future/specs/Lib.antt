pub mod Least
pub mod Forced
pub mod Payments
pub mod Between
pub mod Spendable
