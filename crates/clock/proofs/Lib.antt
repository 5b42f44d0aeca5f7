pub mod Ends
pub mod Kept
pub mod Buffers
pub mod Silence
