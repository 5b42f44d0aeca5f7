pub mod Each
pub mod Wire
pub mod Read
pub mod Written
pub mod Examples
