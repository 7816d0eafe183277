pub mod Parts
pub mod ReadWritten
pub mod WrittenRead
pub mod FirstFault
pub mod Rows
pub mod Accepted
