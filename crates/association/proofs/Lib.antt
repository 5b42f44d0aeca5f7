pub mod Answers
pub mod Sound
pub mod Started
