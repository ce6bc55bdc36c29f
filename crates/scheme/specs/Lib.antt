pub mod Scheme
pub mod Bounds
