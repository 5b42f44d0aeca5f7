pub mod Readers
pub mod Through
pub mod Examples
