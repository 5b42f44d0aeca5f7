pub mod Header
pub mod Parameters
pub mod Survey
pub mod Turn
pub mod Examples
