pub mod Types
pub mod Parameters
pub mod Written
pub mod Examples
