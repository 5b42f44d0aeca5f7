pub mod Folds
pub mod Readings
pub mod Calls
pub mod Examples
