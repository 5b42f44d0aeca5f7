pub mod Written
pub mod Announcements
pub mod Sized
pub mod Entries
pub mod Listed
pub mod Examples
