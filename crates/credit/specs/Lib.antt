pub mod Credit
pub mod Clock
pub mod Lasting
pub mod Examples
