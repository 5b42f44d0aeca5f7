pub mod Choices
pub mod Fields
pub mod Listed
