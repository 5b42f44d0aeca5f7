pub mod Puts
pub mod Places
