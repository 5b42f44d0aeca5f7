pub mod Joined
pub mod Slots
