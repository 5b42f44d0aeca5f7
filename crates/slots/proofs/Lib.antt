pub mod Loops
pub mod Each
pub mod Statuses
pub mod Kept
