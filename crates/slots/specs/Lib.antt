pub mod Rules
pub mod Past
pub mod Examples
