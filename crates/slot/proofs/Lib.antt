pub mod Cases
pub mod Settled
pub mod Expired
pub mod Carried
pub mod Resent
