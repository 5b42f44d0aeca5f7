pub mod Judged
pub mod Room
pub mod Examples
