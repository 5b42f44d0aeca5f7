pub mod Answers
pub mod Formed
mod Even
pub mod Turns
pub mod Within
