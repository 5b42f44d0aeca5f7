pub mod Sizes
pub mod Standing
pub mod ReadBack
pub mod Judged
pub mod Ends
pub mod Kept
