pub mod Numbers
pub mod Records
pub mod Written
pub mod ExamplesHex
pub mod Examples
