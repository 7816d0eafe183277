pub mod Log
pub mod Demand
pub mod Answers
pub mod Invariant
pub mod Blocks
pub mod Payments
pub mod Rollbacks
pub mod Proved
