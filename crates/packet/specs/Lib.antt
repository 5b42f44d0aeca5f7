pub mod Kinds
pub mod Readings
pub mod Parts
pub mod Examples
pub mod ExamplesBytes
