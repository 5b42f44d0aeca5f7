pub mod Written
pub mod Ends
