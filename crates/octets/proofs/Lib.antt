pub mod Fields
pub mod Runs
pub mod Sizes
pub mod ReadBack
pub mod Halves
