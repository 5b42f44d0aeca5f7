pub mod Form
pub mod Start
pub mod Examples
