pub mod Numbers
pub mod Entries
pub mod ExamplesWritten
pub mod Examples
