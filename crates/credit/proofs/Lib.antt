pub mod Covered
pub mod Ageing
