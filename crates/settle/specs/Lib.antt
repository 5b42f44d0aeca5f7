pub mod Renewed
pub mod Examples
