pub mod Packets
pub mod Held
pub mod Tables
pub mod Starred
pub mod Refusals
pub mod Story
pub mod Announced
pub mod Meeting
