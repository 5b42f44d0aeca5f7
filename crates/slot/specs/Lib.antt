pub mod Found
pub mod Clashes
pub mod Checks
pub mod Expiry
pub mod Examples
