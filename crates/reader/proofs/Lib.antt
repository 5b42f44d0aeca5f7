pub mod Places
pub mod Through
