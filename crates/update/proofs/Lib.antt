pub mod Cases
pub mod Kept
pub mod Listed
pub mod Buffers
pub mod Untouched
