pub mod Laid
pub mod Words
pub mod State
pub mod Answers
pub mod Examples
