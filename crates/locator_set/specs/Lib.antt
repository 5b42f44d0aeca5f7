pub mod Sets
pub mod Buckets
pub mod Examples
