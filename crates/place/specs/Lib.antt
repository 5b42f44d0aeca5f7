pub mod Placing
pub mod Examples
