pub mod Refusals
pub mod Messages
pub mod Examples
pub mod ExamplesChecks
