pub mod Earlier
pub mod Passes
pub mod Listing
pub mod Addresses
