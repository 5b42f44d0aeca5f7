pub mod Locators
pub mod Examples
