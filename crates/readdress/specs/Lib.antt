pub mod Echoes
pub mod Steps
pub mod Checks
pub mod Moves
pub mod Examples
