pub mod Timely
pub mod Examples
