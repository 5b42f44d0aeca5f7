pub mod Heard
pub mod Surveyed
pub mod Accepted
pub mod Checked
pub mod Answered
pub mod Given
pub mod Agreement
