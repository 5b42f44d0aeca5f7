pub mod Resends
pub mod Examples
