pub mod Sent
pub mod Accepted
pub mod Checked
pub mod Answered
pub mod Agreement
pub mod Examples
