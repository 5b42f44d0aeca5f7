pub mod Writes
pub mod Examples
