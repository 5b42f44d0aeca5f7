pub mod Sizes
pub mod Fitted
